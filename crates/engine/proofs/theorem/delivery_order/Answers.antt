-- `theorem::delivery_order` meets its contract.
use Rattle.engine.proofs.DeliveryOrder.{delivery_order}
use Rattle.engine.proofs.theorem.delivery_order.Goals as goal

pub returns : goal.returns
returns c = delivery_order
