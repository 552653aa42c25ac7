-- `exports::regge::cjapthumi_length_signs` meets its contract. Assumes nothing.
use mathlib.Core.Path.{ap, ◌∙◌}
use Rattle.exports.specs.Signs.{signs_list}
use Rattle.exports.proofs.regge.cjapthumi_length_signs.Goals as goal

pub returns : goal.returns
returns c = c.signs_list.ensures ∙ ap signs_list c.length_signs.ensures
