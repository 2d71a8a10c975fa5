-- How many cases were tried, and how many of them differ.
use Rattle.std.specs.Prelude.{Bool, true, false, ℕ, ◌+◌, ◌-◌, ◌^◌, min}
use Rattle.answer_lists.specs.declared.count.Count.{Count}

abbrev pub no_cases : Count
no_cases = record { cases = 0; differing = 0 }

-- one more, up to the largest u64
abbrev pub one_more : ℕ → ℕ
one_more n = min (n + 1) (2 ^ 64 - 1)

-- one case more, which differs where it does not agree
abbrev pub counted : Count → Bool → Count
counted c true = record { cases = one_more c.cases; differing = c.differing }
counted c false = record { cases = one_more c.cases; differing = one_more c.differing }
