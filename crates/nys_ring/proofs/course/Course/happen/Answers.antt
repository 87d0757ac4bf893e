use Rattle.std.proofs.Common.{◌≡◌, ◌+◌, ◌∷◌, [], ◌++◌, ap, sym, refl, ◌∙◌, arith, length}
use Rattle.std.proofs.lemmas.List.{length-map}
use Rattle.nys_rules.specs.Events.{plain}
use Rattle.nys_schedule_text.specs.EventLines.{event_line, event_lines}
use Rattle.nys_ring.specs.Courses.{plains}
use Rattle.nys_ring.proofs.CourseLemmas.{course_ends, course_more, lines_more, plains_more}
use Rattle.nys_ring.proofs.course.Course.happen.Goals as goal

-- the event happened
pub returns-in-Ok-clause-happened : goal.returns-in-Ok-clause-happened
returns-in-Ok-clause-happened g c = λ first w is.
    let x = c.in-Ok.ensures.happens w is.shown in (
      x.0,
      x.1,
      course_more (g.P.Protocol.rules c.args.self.world.stage.cx.protocol) first w x.0 c.args.self _ c.in_ok-copy.copy c.args.event c.line_len-line.result
          is c.in-Ok.ensures.stage x.2 x.1 c.in_ok-push.ensures.items c.in_ok-copy.ensures refl c.line_len-line.ensures
          (omega (arith, c.if-len-gt-MAX_EVENTS.false, c.len.ensures))
          (omega (arith, c.if-length-line.false, is.short)) c.requires.event,
      plains_more c.args.self.events.items c.push.new.self.items c.in_ok-copy.copy c.args.event c.in_ok-push.ensures.items c.in_ok-copy.ensures,
    )

-- the event ended the world
pub returns-in-Err-clause-happened : goal.returns-in-Err-clause-happened
returns-in-Err-clause-happened g c = λ first w is.
    let rules = g.P.Protocol.rules c.args.self.world.stage.cx.protocol in
    let before = plains c.args.self.events.items in
    let all = before ++ plain c.args.event ∷ [] in
    let same : plains c.push.new.self.items ≡ all =
    plains_more c.args.self.events.items c.push.new.self.items c.in_ok-copy.copy c.args.event c.in_ok-push.ensures.items c.in_ok-copy.ensures in
    let one : length c.push.new.self.items ≡ length all = sym (length-map c.push.new.self.items plain) ∙ ap length same in
    let text : length (event_lines all) ≡ length (event_lines before) + length (event_line (plain c.args.event)) = lines_more before (plain c.args.event) in
    course_ends rules c.args.self first w (plains c.push.new.self.items) (plain c.args.event) c.in-Err.end c.fault_of.result
    same (omega (arith, c.if-len-gt-MAX_EVENTS.false, c.len.ensures, one))
    (omega (arith, c.if-length-line.false, is.short, is.lines, c.line_len-line.ensures, text))
    is.happen (c.in-Err.ensures.happens w is.shown) c.fault_of.ensures
