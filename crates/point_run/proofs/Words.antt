-- The words of other modules that the proofs of this crate cite, passed on from one place. Declares nothing.
pub use Rattle.std.proofs.Common.{◌≡◌, refl, ap, sym, ◌∙◌, ℕ, ◌<◌, ◌≤◌, ℤ, List, [], ◌∷◌, length, map, take, arith, length-append, ◌+◌, ◌++◌, get_or, ◌-◌, pos, drop, replicate, append_assoc, rules}
pub use Rattle.std.proofs.lemmas.List.{drop_more, take-append-le, map-append, length-take-le, take_all, drop-append-le, drop_all, length-replicate, map_more}
pub use Rattle.pip_model.specs.Forms.{constant, widen_to, coefficients, floor_divided, width}
pub use Rattle.pip_model.specs.Tree.{Component}
pub use Rattle.pip_model.specs.Rows.{Row, start, row_at, form_row, count_from, unit_row, divided}
pub use Rattle.pip_model.specs.Run.{row_component}
pub use Rattle.pip_model.specs.Numbers.{floor_div, gcd, gcd_of}
pub use Rattle.gomory_cut.specs.Tableaus.{TableauRows}
pub use Rattle.point_turns.specs.Turns.{negative_from}
