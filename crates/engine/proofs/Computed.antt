-- What the table of rows and the worked lists compute with. To unfold `computed` is to unfold all that its line names.
use lib.Ieee.{of_bits, to_bits, is_nan, add, sub, mul, div, lt, le}
use Rattle.hazards.specs.Floats.{not_below_zero, zero_bits, in_range, is_time, is_threshold, is_finite_wait}
use Rattle.hazards.specs.Lists.{all, foldl, insert_by, sort_by}
use Rattle.hazards.specs.Fields.{little_endian, bytes_of, field_at, f64_at, i32_at}
use Rattle.hazards.specs.FirstPlace.{first_of}
use Rattle.hazards.specs.Roots.{fields_multiple, multiple, square_above, root_pattern, nearest_root}
use Rattle.hazards.specs.Rates.{weibull_hazard, weibull_cumulative, weibull_wait}
use Rattle.hazards.specs.Rates.{pieces_by, first_after, used_pairs, piecewise_hazard, hazard_of_rate, hazard_at, piecewise_cumulative}
use Rattle.hazards.specs.Rates.{cumulative_of_rate, cumulative_hazard, ends_in, wait_from, constant_wait, wait_of_rate, invert_cumulative_hazard}
use Rattle.hazards.specs.Rates.{own_rate}
use Rattle.hazards.specs.Checks.{range_fault, ascending, intervals_fault, choice_fault, hazard_faults}
use Rattle.hazards.specs.Draws.{draw_at}
use Rattle.hazards.specs.Answers.{head_bytes, answer_bytes}
use Rattle.hazards.specs.Ties.{candidate_after, preferred, precedes, earlier, earliest}
use Rattle.hazards.specs.Sampler.{faults_of_all, settings_faults, draws_refusal, sample_refusal, candidates, censored_at, sampled_event}
use Rattle.hazards.specs.Sampler.{sample_next}
use Rattle.clocks.specs.Channels.{settled_hazard, on_used, place_of_cause, place_for_new, insert_at, remove_at, channel_candidate}
use Rattle.clocks.specs.Ticks.{whole_ticks}
use Rattle.clocks.specs.Clocks.{new_clock, remove_channel, clock_candidates, earliest_event}
use Rattle.clocks.specs.Setting.{set_again, set_new, set_channel}
use Rattle.clocks.specs.Scheduling.{final_event, scheduled_for, reschedule, pause, resume, on_event_dispatched}
use Rattle.clocks.specs.Validation.{is_finite, ascending_from, valid_channel, valid_clock}
use Rattle.engine.specs.Commands.{width_of, create_faults, set_faults, reschedule_faults, pause_faults}
use Rattle.engine.specs.Queue.{comes_first, next_request, without, is_queued}
use Rattle.engine.specs.Opening.{opened_state}
use Rattle.engine.specs.Validation.{valid_slot, valid_request, distinct, valid_queue, valid_shared, valid_state}
use Rattle.engine.specs.Comparison.{same_float, every_below, same_hazard, same_intervals, same_channel, same_settings, same_channels}
use Rattle.engine.specs.Comparison.{same_schedule, same_clock, same_slot, same_request, same_shared, same_state}
use Rattle.engine.specs.Execution.{perform_create, perform_set, perform_remove, perform_reschedule, perform_pause, perform_resume}
use Rattle.engine.specs.Execution.{perform_deliver}
use Rattle.engine.specs.Execution.{perform_on, target, perform}
use Rattle.engine.specs.Engine.{classify}
use Rattle.engine.specs.Replay.{replay, split_from, undo}
use Rattle.engine.specs.Execute.{execute}
use Rattle.engine.specs.Sessions.{feed, feed_all, new_session}
use Rattle.engine.specs.Ledger.{record_command, ledger_of}

unfoldable pub computed : Unit {0}
unfolding of_bits to_bits is_nan add sub mul div lt le not_below_zero zero_bits in_range is_time is_threshold is_finite_wait all foldl insert_by sort_by
    little_endian bytes_of field_at f64_at i32_at first_of fields_multiple multiple square_above root_pattern nearest_root weibull_hazard
    weibull_cumulative weibull_wait pieces_by first_after used_pairs piecewise_hazard hazard_of_rate hazard_at piecewise_cumulative
    cumulative_of_rate cumulative_hazard ends_in wait_from constant_wait wait_of_rate invert_cumulative_hazard own_rate
    range_fault ascending intervals_fault choice_fault hazard_faults draw_at head_bytes answer_bytes candidate_after preferred precedes
    earlier earliest faults_of_all settings_faults draws_refusal sample_refusal candidates censored_at sampled_event sample_next settled_hazard
    on_used place_of_cause place_for_new insert_at remove_at channel_candidate whole_ticks new_clock remove_channel clock_candidates earliest_event
    set_again set_new set_channel
    final_event scheduled_for reschedule pause resume on_event_dispatched is_finite ascending_from valid_channel valid_clock width_of comes_first
    next_request without is_queued opened_state valid_slot valid_request distinct valid_queue valid_shared valid_state same_float every_below
    same_hazard same_intervals same_channel same_settings same_channels same_schedule same_clock same_slot same_request same_shared same_state
    create_faults set_faults reschedule_faults pause_faults perform_create perform_set perform_remove perform_reschedule perform_pause perform_resume
    perform_deliver perform_on target perform classify replay split_from undo execute feed feed_all new_session record_command ledger_of
computed = tt
