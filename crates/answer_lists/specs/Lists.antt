-- What is read of a list, and what is counted of its cases.
use Rattle.std.specs.Prelude.{◌≡◌, ℕ, Bool, ◌<◌, ◌≤◌, List, ◌++◌, length}
use Rattle.std.specs.declared.option.Option.{Option}
use Rattle.std.specs.Fn.{Mut, CalledAt}
use Rattle.std.specs.Io.KnownBytes.{Consumes, IsAtEnd}
use Rattle.std.specs.List.{All, FoldsTo, concat}
use Rattle.std.specs.Borrow.{Bor}
use Rattle.answer_lists.specs.declared.count.Count.{Count}
use Rattle.answer_lists.specs.Counts.{no_cases, counted}

-- the list has ended, with fewer than n bytes
pub record ConsumesFewer (old new : Option (List ℕ)) (n : ℕ) : Type 0 where
  pub bytes : List ℕ
  pub fewer : length bytes < n
  pub consumes : Consumes old new bytes
  pub at_end : IsAtEnd new

module _ {F : Type 0} (agrees : Mut F (Bor (List ℕ) × Unit {0}) Bool) where
  -- a call at a case, and its answer counted
  abbrev pub TriesCase : F × Count → List ℕ → F × Count → Type 0
  TriesCase before case after = (same : Bool) × CalledAt agrees before.0 case same after.0 × (after.1 ≡ counted before.1 same)

  -- cases of n bytes are read and tried one after another, either so many or all whole ones of the list
  pub record Replays (n most : ℕ) (f : F) (old new : Option (List ℕ)) (count : Count) : Type 0 where
    pub cases : List (List ℕ)
    pub last : F
    pub tries : FoldsTo TriesCase (f, no_cases) cases (last, count)
    pub rest : List ℕ
    pub consumes : Consumes old new (concat cases ++ rest)
    pub wide : All (λ case. length case ≡ n) cases
    pub at_most : length cases ≤ most
    pub whole : length cases < most → (length rest < n) × IsAtEnd new
