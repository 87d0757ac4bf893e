-- The lists with which a system begins.
use Rattle.std.proofs.Common.{◌≡◌, true, List, [], replicate}
use Rattle.nys_source.specs.Tables.{at_each}
use Rattle.nys_source.specs.Rules.{Rules}
use Rattle.nys_source.specs.Source.{fresh}
use Rattle.nys_source.specs.Held.{shown}
use Rattle.nys_source.proofs.TableLemmas.{at_each-replicate, lists_at-empty, lists_at_both-empty, numbers_at_both-zero}

-- hosts that begin, all running, and empty lists stand for the system at the beginning
pub shown-fresh : {S : Type 0} (rules : Rules S) (states : List S) → at_each rules.start states ≡ rules.start → shown rules (record { states = states; running = replicate 32 true; outs = replicate 32 []; sent = replicate 32 (replicate 32 []); received = replicate 32 (replicate 32 0); messages = [] }) ≡ fresh rules
shown-fresh rules states begin = λ i. record {
  state = begin i;
  running = at_each-replicate true 32 i;
  outs = lists_at-empty 32 i;
  sent = lists_at_both-empty 32 32 i;
  received = numbers_at_both-zero 32 32 i;
  messages = [];
}
