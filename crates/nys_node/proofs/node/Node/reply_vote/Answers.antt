use Rattle.nys_node.proofs.AnswerLemmas.{vote_unsent}
use Rattle.nys_node.proofs.node.Node.reply_vote.Goals as goal

-- the votes are of another slot
pub returns-then-kept-slot : goal.returns-then-kept-slot
returns-then-kept-slot g c =
    vote_unsent c.args.self.now.me c.args.asker c.args.self.now.epoch c.args.h c.args.slot c.args.out.now c.args.kept.now c.if-kept-slot.true
