-- The code's limits are those of the definitions.
use Rattle.affine_forms.proofs.Words.{◌≡◌, refl}
use Rattle.pip_model.specs.Limits.{most_unknowns, most_params, most_rows, most_context_rows, most_components, most_nesting}
use Rattle.affine_forms.specs.declared.limits.TheConstants.{MOST_UNKNOWNS, MOST_PARAMETERS, MOST_ROWS, MOST_CONTEXT_ROWS, MOST_COMPONENTS, MOST_NESTING}

limits : (MOST_UNKNOWNS ≡ most_unknowns) × (MOST_PARAMETERS ≡ most_params) × (MOST_ROWS ≡ most_rows) × (MOST_CONTEXT_ROWS ≡ most_context_rows) × (MOST_COMPONENTS ≡ most_components) × (MOST_NESTING ≡ most_nesting)
limits = (refl, refl, refl, refl, refl, refl)
