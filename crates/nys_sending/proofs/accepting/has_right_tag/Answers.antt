use Rattle.std.proofs.Common.{◌&&◌, ◌==◌, ◌∙◌, ap, sym}
use Rattle.std.specs.Prelude.{bytes_eq}
use Rattle.std.specs.List.{list_any}
use Rattle.nys_mac.specs.Tags.{tag_of}
use Rattle.nys_sending.proofs.Walks.{any_first, any_behind}
use Rattle.nys_sending.proofs.accepting.has_right_tag.Goals as goal

-- all its tags are left at first
pub loop-receiver-init : goal.loop-receiver-init
loop-receiver-init c =
    ap (list_any (λ t. t.0 == c.args.taker && bytes_eq t.1 (tag_of c.args.keys.now c.args.maker.now.maker c.args.taker c.args.bytes.now)))
    (c.into_iter-receiver-iterator.ensures.into_iter_gives ∙ c.each_tag-receiver-items.ensures)

-- the tag that is found is right
pub returns-then-is_right : goal.returns-then-is_right
returns-then-is_right c =
    any_first (λ t. t.0 == c.args.taker && bytes_eq t.1 (tag_of c.args.keys.now c.args.maker.now.maker c.args.taker c.args.bytes.now))
    (c.in-Some.receiver, c.in-Some.tag.now) c.next.new.self c.loop-receiver.receiver-iterator c.in-Some.ensures.steps
    (sym c.if-is_right.true ∙ c.is_right.ensures ∙ ap (λ m. c.in-Some.receiver == c.args.taker && bytes_eq c.in-Some.tag.now (tag_of c.args.keys.now m c.args.taker c.args.bytes.now)) c.maker.ensures.maker)
    ∙ c.loop-receiver.invariant

-- it isn't, so it is left to the rest
pub loop-receiver-preserved : goal.loop-receiver-preserved
loop-receiver-preserved c =
    sym (any_behind (λ t. t.0 == c.args.taker && bytes_eq t.1 (tag_of c.args.keys.now c.args.maker.now.maker c.args.taker c.args.bytes.now))
    (c.in-Some.receiver, c.in-Some.tag.now) c.next.new.self c.loop-receiver.receiver-iterator c.in-Some.ensures.steps
    (sym c.if-is_right.false ∙ c.is_right.ensures ∙ ap (λ m. c.in-Some.receiver == c.args.taker && bytes_eq c.in-Some.tag.now (tag_of c.args.keys.now m c.args.taker c.args.bytes.now)) c.maker.ensures.maker))
    ∙ c.loop-receiver.invariant
