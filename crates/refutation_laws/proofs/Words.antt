-- The words of other modules that the proofs of this crate cite, passed on from one place. Declares nothing.
pub use Rattle.std.proofs.Common.{◌≡◌, refl, ap, sym, ◌∙◌, ℕ, suc, ◌+◌, ◌<◌, ◌≤◌, arith, Option, List, [], ◌∷◌, true, false, zero, length, ℤ, subst, Some, None, ◌++◌, take}
pub use Rattle.std.specs.Prelude.{if◌then◌else◌, map}
pub use Rattle.pip_model.specs.Numbers.{is_nonneg}
pub use Rattle.pip_model.specs.Forms.{constant, negate, residue, widen_to, entry, coefficients}
pub use Rattle.pip_model.specs.Tree.{Tree, Bottom, Leaf}
pub use Rattle.pip_model.specs.Rows.{Row, row_at, unit_row, form_row, count_from, start, pivot, pivot_listed, entering, entering_listed, is_whole, first_fraction}
pub use Rattle.pip_model.specs.Certificate.{Refutation}
pub use Rattle.pip_model.specs.Run.{Work, Refusal, Outcome, Done, Refused, Counted, go_on, ◌>>=◌, left, Node, Turn, Closed, Again, Plus, Minus, Signs, AllPlus, MinusAt, scan, scan_on, turn_by, turn, point_setting, give, run, root, numbers_of, point_run, point, ◌>>◌, listed, count_pivot, count_cut, UnknownBy, pivot_turn, last_turn, quotient_cut, leaf, Class, Unknown}
pub use Rattle.pip_model.specs.Refuting.{Trace, traced, steps_at, refute_run, refute_from, first_trace, refute_by, refute, last_step, pivot_trace, cut_trace}
pub use Rattle.pip_model.proofs.Fuel.{Progress, turned, again_less, falls-constant_class}
pub use Rattle.pip_model.proofs.Tests.{every-append, true_or_not, if_cases}
pub use Rattle.pip_model.specs.Cuts.{constant_cut, residue_of, find_from}
pub use Rattle.run_laws.proofs.Ensured.{OnDone, Ensures, ensures-bind, ensures-then, ensures-give, after_listed, ensures-weaken}
pub use Rattle.run_laws.proofs.RowsAt.{FormsWide, wide_form_at, forms_more, forms_pivot}
