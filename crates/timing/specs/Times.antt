-- What a call takes, and what is printed for hundredths.
use Rattle.std.specs.Prelude.{ℕ, ◌-◌, ◌*◌, ◌/◌, ◌%◌, ◌^◌, min, max, List, ◌++◌, codes}
use Rattle.std.specs.Fmt.{decimal}

-- hundredths for each of the calls, with the greatest number of 128 bits for all of them and of 64 for one at most
abbrev pub part_of : ℕ → ℕ → ℕ
part_of nanos calls = min (min (nanos * 100) (2 ^ 128 - 1) / max calls 1) (2 ^ 64 - 1)

-- the whole part, a point and two digits
abbrev pub hundredths_text : ℕ → List ℕ
hundredths_text n = decimal (n / 100) ++ codes "." ++ decimal (n / 10 % 10) ++ decimal (n % 10)

-- how many percent of one time another is, the greatest number of 64 bits for its hundredfold at most
abbrev pub percent : ℕ → ℕ → ℕ
percent time other = min (time * 100) (2 ^ 64 - 1) / max other 1
