use Rattle.std.proofs.Common.{refl, ◌∙◌}
use Rattle.nys_mac.specs.Tags.{pair_key}
use Rattle.nys_mac.proofs.pairs.key_of_pair.Goals as goal

-- the text that was authenticated is that of the pair
pub returns : goal.returns
unfolding pair_key
returns c = λ key states. c.hmac.ensures key states ∙ rw (c.min.ensures, c.max.ensures) refl
