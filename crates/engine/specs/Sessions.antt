-- Document 01, "Journal and undo": an engine in use from its opening on, and its applied commands.
use Rattle.std.specs.Prelude.{ℕ, List, [], ◌∷◌, ◌++◌, replicate}
use Rattle.engine.specs.Engine.{Bytes, Engine, Reply, refusal, reverted, completed, init, cut}
use Rattle.engine.specs.Execute.{execute}

module _ (E : Engine) where
  -- an engine in use, with its applied commands (document 01: the commands that stand)
  pub record Session : Type 0 where
    pub state : E.State
    pub journal : Bytes
    pub applied : List Bytes

  -- only accepted commands but UNDO are applied: each, cut to its width, goes to the end of those that are; an accepted UNDO removes
  -- the last of them, and a refused input leaves them
  abbrev pub applied_after : Reply E.Answer → Bytes → List Bytes → List Bytes
  applied_after (refusal n) i cs = cs
  applied_after reverted i cs = init cs
  applied_after (completed a) i cs = cs ++ (cut E i ∷ [])

  -- one input, given the state and journal that the one before left
  unfoldable pub feed : Session → Bytes → Session
  feed u i =
      record {
        state = (execute E u.state u.journal i).state;
        journal = (execute E u.state u.journal i).journal;
        applied = applied_after (execute E u.state u.journal i).reply i u.applied;
      }

  -- every input in turn
  unfoldable pub feed_all : Session → List Bytes → Session
  feed_all u [] = u
  feed_all u (i ∷ is) = feed_all (feed u i) is

  -- a newly opened engine with a journal of n bytes, which opening fills with zero
  unfoldable pub new_session : ℕ → Session
  new_session n = record { state = E.opened; journal = replicate n 0; applied = [] }

  abbrev pub Accepted : Reply E.Answer → Type 0
  Accepted (refusal n) = ⊥
  Accepted reverted = Unit {0}
  Accepted (completed a) = Unit {0}

  -- every input is accepted
  unfoldable pub AcceptsEach : Session → List Bytes → Type 0
  AcceptsEach u [] = Unit {0}
  AcceptsEach u (i ∷ is) = Accepted (execute E u.state u.journal i).reply × AcceptsEach (feed u i) is
