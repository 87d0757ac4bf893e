use Rattle.std.proofs.Common.{◌≡◌, ◌<◌, ◌≤◌, length, subst, sym, arith}
use Rattle.nys_node.specs.Replies.{kept_among}
use Rattle.nys_sending.specs.Receivers.{replied}
use Rattle.nys_config.specs.Scopes.{scope_of}
use Rattle.nys_node.specs.Sound.{IsSoundKept, tellable}
use Rattle.nys_rules.specs.Packets.{joined}
use Rattle.nys_node.proofs.AnswerLemmas.{kept_end, kept_next, kept_same, vote_whole}
use Rattle.nys_node.proofs.ReplyLemmas.{tells}
use Rattle.nys_node.proofs.RowLemmas.{all_at, row_read}
use Rattle.nys_node.proofs.SayLemmas.{epoch_fits}
use Rattle.std.specs.Prelude.{All}
use Rattle.nys_node.proofs.node.Node.reply_kept.Goals as goal

-- votes that are kept are a whole record
pub reply_vote-requires : goal.reply_vote-requires
reply_vote-requires g c =
    let rules = g.P.Protocol.rules c.args.cx.now.protocol in
    let scope = scope_of rules c.args.cx.now in
    let node = c.args.self.now in
    let h = c.args.h in
    let v = c.requires.means.0 in
    let m = c.requires.means.1.means in
    let kept = c.index-kept.result.now in
    let same : kept ≡ v.kept h = row_read node.kept.items v.kept h kept m.slots c.requires.host c.index-kept.ensures in
    let inside : c.loop-i.i < length kept = omega (arith, c.len-i-end.ensures, c.loop-i-test.true) in
    let sound : All (IsSoundKept (tellable scope v h)) kept = subst (λ ks. All (IsSoundKept (tellable scope v h)) ks) (sym same) (c.requires.means.1.sound.kept h) in
    record {
      whole = vote_whole scope v node.epoch h c.get.result.now (epoch_fits rules.hosts rules c.args.cx.now node v c.requires.config m) c.requires.host (tells scope node v h m c.requires.some)
          (all_at (IsSoundKept (tellable scope v h)) kept c.loop-i.i c.get.result.now sound inside c.get.ensures);
    }

-- one slot more was looked at
pub loop-i-preserved : goal.loop-i-preserved
loop-i-preserved g c =
    let node = c.args.self.now in
    let kept = c.index-kept.result.now in
    kept_next node.me c.args.asker node.epoch c.args.h c.args.slot (joined c.args.out.now (replied node.me c.args.asker (kept_among node.epoch c.args.h c.args.slot kept))) c.loop-i.out c.reply_vote.new.out kept c.loop-i.i c.get.result.now
    c.get.ensures c.in_ok-reply_vote.ensures c.loop-i.invariant

-- all were looked at
pub returns : goal.returns
returns g c = λ v m.
    let scope = scope_of (g.P.Protocol.rules c.args.cx.now.protocol) c.args.cx.now in
    let node = c.args.self.now in
    let h = c.args.h in
    let kept = c.index-kept.result.now in
    let past : length kept ≤ c.loop-i.i = omega (arith, c.len-i-end.ensures, c.loop-i-test.false) in
    kept_same scope node v h c.args.slot c.args.asker c.args.out.now c.loop-i.out kept m (row_read node.kept.items v.kept h kept m.slots c.requires.host c.index-kept.ensures)
    (kept_end node.me c.args.asker node.epoch h c.args.slot (joined c.args.out.now (replied node.me c.args.asker (kept_among node.epoch h c.args.slot kept))) c.loop-i.out kept c.loop-i.i past c.loop-i.invariant)
