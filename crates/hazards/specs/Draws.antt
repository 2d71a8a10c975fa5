-- Document 01, "Draws": the tape, here the recorded threshold stream: lent bytes, of which each whole 8 are one f64. Its length
-- counts these.
use Rattle.std.specs.Prelude.{cond, List, ℕ, ◌+◌, ◌*◌, ◌/◌, ltb, eqb, length, Float, Result, Ok, Err}
use Rattle.hazards.specs.Floats.{z, is_threshold}
use Rattle.hazards.specs.Fields.{f64_at}
use Rattle.hazards.specs.Refusals.{number, invalid_state, stream_exhausted, bad_threshold}
use Rattle.hazards.specs.declared.draws.Drawn.{Drawn}
use Rattle.hazards.specs.declared.draws.StreamPosition.{StreamPosition}
use Rattle.hazards.specs.declared.refusals.Refusal.{Refusal}

-- a draw: its refusal or 0, and the threshold
pub record Draw : Type 0 where
  pub number : ℕ
  pub threshold : Float

-- a draw, and the position after it
pub record DrawAndPosition : Type 0 where
  pub number : ℕ
  pub threshold : Float
  pub position : StreamPosition

abbrev pub stream_length : List ℕ → ℕ
stream_length stream = length stream / 8

abbrev pub threshold_at : List ℕ → ℕ → Float
threshold_at stream position = f64_at stream (8 * position)

-- a refused draw leaves the position
abbrev pub refused_draw : ℕ → ℕ → DrawAndPosition
refused_draw number position = record { number = number; threshold = z; position = record { next = position } }

-- a draw reads the threshold at the position and adds one to it
unfoldable pub draw_at : List ℕ → ℕ → DrawAndPosition
draw_at stream position =
    cond (ltb (stream_length stream) position) (refused_draw invalid_state position)
    (cond (eqb position (stream_length stream)) (refused_draw stream_exhausted position)
    (cond (is_threshold (threshold_at stream position))
    (record { number = 0; threshold = threshold_at stream position; position = record { next = position + 1 } })
    (refused_draw bad_threshold position)))

-- what a drawing call returns, with the position that it was lent and leaves
abbrev pub with_position : Draw → StreamPosition → DrawAndPosition
with_position d p = record { number = d.number; threshold = d.threshold; position = p }

-- ---- what the drawing calls return, read as draws

abbrev pub draw_of : Result Float Refusal → Draw
draw_of (Ok threshold) = record { number = 0; threshold = threshold }
draw_of (Err refusal) = record { number = number refusal; threshold = z }

-- with the position that the call was given
abbrev pub draw_and_position : ℕ → Result Drawn Refusal → DrawAndPosition
draw_and_position position (Ok drawn) = record { number = 0; threshold = drawn.threshold; position = drawn.position }
draw_and_position position (Err refusal) = refused_draw (number refusal) position
