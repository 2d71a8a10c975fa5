-- What the code's answers mean: what the sampler finds of one record, and of all of them, accepted or not, with thresholds that were drawn
-- beforehand.
use Rattle.std.specs.Prelude.{List, ℕ, get_or, take, Float}
use Rattle.std.specs.Float.{nan}
use Rattle.hazards.specs.Sampler.{cause_faults, faults_of_all, in_cause_order, candidates}
use Rattle.hazards.specs.Ties.{earliest}
use Rattle.hazards.specs.Checks.{hazard_of, intervals_of}
use Rattle.hazards.specs.Rates.{invert_cumulative_hazard}
use Rattle.hazards.specs.declared.candidates.Scan.{Scan}
use Rattle.hazards.specs.declared.sampler.CompetingCause.{CompetingCause}
use Rattle.hazards.specs.declared.ties.TieBreaker.{TieBreaker}
use Rattle.hazards.specs.declared.records.Examined.{Examined}

-- a record's faults, and its wait from an age on until its hazard has accumulated w
abbrev pub examined_record : CompetingCause → Float → Float → Examined
examined_record c age w = record {
  faults = cause_faults c;
  wait = invert_cumulative_hazard (hazard_of c.hazard) (intervals_of c.hazard) age w;
}

-- the threshold at a place of those that were drawn
abbrev pub drawn_threshold : List Float → ℕ → Float
drawn_threshold thresholds k = get_or thresholds k nan

-- the faults of the first n records, and the best of their candidates: in cause order, the one at place k takes threshold k
abbrev pub scan_of : List CompetingCause → ℕ → TieBreaker → Float → List Float → Scan
scan_of causes n tie age thresholds = record {
  faults = faults_of_all (take n causes);
  best = earliest tie (candidates (in_cause_order (take n causes)) age (drawn_threshold thresholds) 0);
}
