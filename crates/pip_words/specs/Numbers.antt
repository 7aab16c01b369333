-- Number words.
use Rattle.std.specs.Prelude.{◌&&◌, ◌==◌, ◌-◌, ◌^◌, ℕ, ℤ, pos, not, List, length, Option, Some, None, if◌then◌else◌, nat_le, option_map}
use Rattle.std.specs.List.{list_all}
use Rattle.pip_model.specs.Tokens.{is_digit, natural_of}

-- the number that one or more decimal digits spell, if it is at most `most`
abbrev pub number_of : ℕ → List ℕ → Option ℕ
number_of most text =
    if not (length text == 0)
    && (list_all is_digit text && nat_le (natural_of text) most) then Some (natural_of text) else None

-- the value of a parameter: such a number that fits
abbrev pub parameter_of : List ℕ → Option ℤ
parameter_of text = option_map (λ n. pos n) (number_of (2 ^ 127 - 1) text)

-- the most problems of a trial
abbrev pub most_drawn : ℕ
most_drawn = 10000
