-- `comparison::same_words` meets its contract: the library's comparison of the words is that of every word.
use mathlib.Core.Path.{◌∙◌}
use Rattle.engine.proofs.PlaceByPlace.{words_compared}
use Rattle.engine.proofs.comparison.same_words.Goals as goal

pub returns : goal.returns
returns c = c.eq.ensures ∙ words_compared c.args.a.now c.args.b.now c.requires c.told-a c.told-b
