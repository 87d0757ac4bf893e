use Rattle.std.proofs.Common.{◌≡◌, ◌&&◌, ◌==◌}
use Rattle.std.specs.Prelude.{bytes_eq}
use Rattle.std.specs.List.{list_any}
use Rattle.nys_mac.specs.Tags.{tag_of}
use Rattle.nys_sending.proofs.accepting.has_right_tag.Given as goal

-- none of the tags before is right
abbrev pub invariant-loop-receiver : goal.invariant-loop-receiver
invariant-loop-receiver l = list_any (λ t. t.0 == l.taker && bytes_eq t.1 (tag_of l.keys l.maker.maker l.taker l.bytes)) l.receiver-iterator
    ≡ list_any (λ t. t.0 == l.taker && bytes_eq t.1 (tag_of l.keys l.maker.maker l.taker l.bytes)) l.maker.tags
