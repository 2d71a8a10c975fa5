-- `inspection::channel_fields` meets its contract.
use Rattle.olgaemuri.proofs.inspection.channel_fields.Goals as goal

pub returns : goal.returns
returns c = rw (c.own_rate.ensures, c.kind_number.ensures)
