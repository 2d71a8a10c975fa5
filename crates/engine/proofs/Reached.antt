-- No state that is reached from an opened engine, by any inputs, UNDO among them, is refused by 1.
use Prim.Native.Nat.{ℕ}
use mathlib.Core.Path.{◌≡◌, subst}
use mathlib.Core.Bool.{true}
use mathlib.Core.List.{List, [], ◌∷◌}
use mathlib.Core.Option.{some}
use Rattle.engine.specs.Engine.{Bytes, Engine}
use Rattle.engine.specs.Replay.{replay}
use Rattle.engine.specs.Sessions.{feed_all, new_session}
use Rattle.engine.proofs.Supplied.{Laws, Sound}
use Rattle.engine.proofs.CommandLists.{AllWhole}
use Rattle.engine.proofs.Replays.{First, first}
use Rattle.engine.proofs.Applied.{Inv, inv_open, inv-all}

module _ (E : Engine) (SoundState : E.State → Type 0) (S : Sound E SoundState) where
  pub sound_replay : (s : E.State) (cs : List Bytes) (v : E.State) → AllWhole E cs → replay E (some s) cs ≡ some v → SoundState s → SoundState v
  sound_replay s [] v w e g = let p : s ≡ v = unfold replay in cc in subst SoundState p g
  sound_replay s (c ∷ cs) v w e g =
      let f : First E s c cs v = first E s c cs v w.0 e in
      sound_replay f.next cs v w.1 f.rest (S.keeps s f.next c f.answer w.0 g f.did)

  module _ (n : ℕ) (L : Laws E n) (is : List Bytes) where
    pub reached_sound : SoundState (feed_all E (new_session E n) is).state
    reached_sound =
        let h : Inv E n L (feed_all E (new_session E n) is) = inv-all E n L (new_session E n) is (inv_open E n L) in
        sound_replay E.opened (feed_all E (new_session E n) is).applied (feed_all E (new_session E n) is).state h.whole h.ran
        S.opens

    pub never_invalid : E.valid (feed_all E (new_session E n) is).state ≡ true
    never_invalid = S.passes (feed_all E (new_session E n) is).state reached_sound
