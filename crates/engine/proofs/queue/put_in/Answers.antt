-- `queue::put_in` meets its contract: a row where there is a place for it, and then the counts.
use mathlib.Core.Path.{◌≡◌, ◌∙◌, ap}
use native.Mathlib.Omega.{arith}
use lib.ListN.{length, length-set}
use Rattle.engine.specs.StateRows.{shared_of, shared_from}
use Rattle.engine.specs.declared.state.Counts.{Counts}
use Rattle.engine.proofs.RequestRows.{count_at}
use Rattle.engine.proofs.QueueRowLaws.{PutIn, put_stored, put_beyond, put_in_left}
use Rattle.engine.proofs.queue.put_in.Goals as goal
use Rattle.engine.proofs.queue.put_in.Goals.{then-at-lt-PLACES, else-at-lt-PLACES}

pub overflow_add-more : goal.overflow_add-more
overflow_add-more c = omega (arith, c.requires.0, ap (λ (k : Counts). k.queued) c.counts_in-counts.ensures)

pub overflow_add-more-2 : goal.overflow_add-more-2
overflow_add-more-2 c = omega (arith, c.requires.1, ap (λ (k : Counts). k.request_count) c.counts_in-counts.ensures)

pub returns : goal.returns
unfolding shared_from shared_of
returns c =
    let w = c.args.words.now in
    let r = c.args.request in
    let counts = c.counts_in-counts.ensures in
    let at : c.counts_in-counts.result.queued ≡ count_at w 0 = ap (λ (k : Counts). k.queued) counts in
    let put : PutIn w c.if-at-lt-PLACES.words r =
    elim c.if-at-lt-PLACES.branch [
      | then-at-lt-PLACES x ↦
          rw (x.words-is, at) (put_stored w r (omega arith) (rw at at x.if-at-lt-PLACES.true) _ x.request_row.ensures)
      | else-at-lt-PLACES x ↦ rw x.words-is (put_beyond w r (rw at at x.if-at-lt-PLACES.false))
    ] in
    put_in_left w c.if-at-lt-PLACES.words c.put_counts.new.words r put (rw counts at c.put_counts.ensures)
