-- What turning a row makes.
use Rattle.std.specs.Prelude.{ℕ, ℤ, ◌*ℤ◌, List, slice_set}
use Rattle.pip_model.specs.Forms.{entry, combine}

-- the numbers xs over l with the numbers p over l, solved for column c, put in, before they are divided by l; the new denominator
-- is p_c
abbrev pub turned : ℤ → List ℤ → ℕ → List ℤ → List ℤ
turned l p c xs = slice_set (combine (entry p c) xs (entry xs c) p) c (entry xs c *ℤ l)
