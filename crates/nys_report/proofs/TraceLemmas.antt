-- The trace of a world, put together of its parts.
use Rattle.std.proofs.Common.{◌≡◌, ℕ, ◌++◌, List, ap, ◌∙◌}
use Rattle.std.proofs.lemmas.List.{append_assoc}
use Rattle.nys_printed.specs.Report.{report}
use Rattle.nys_report.specs.Trace.{trace}
use Rattle.nys_rules.specs.Packets.{Given, Sent}
use Rattle.nys_rules.specs.World.{Setting, World}
use Rattle.nys_rules.specs.declared.notice.Take.{Take}
use Rattle.nys_trace_lines.specs.TraceLines.{injected_text, packets_text, takes_text}

-- four texts, one appended after another
four_parts : (before p i t r : List ℕ) → (((before ++ p) ++ i) ++ t) ++ r ≡ before ++ (p ++ (i ++ (t ++ r)))
four_parts before p i t r =
    append_assoc ((before ++ p) ++ i) t r
    ∙ append_assoc (before ++ p) i (t ++ r)
    ∙ append_assoc before p (i ++ (t ++ r))

-- the parts, of what the world has, are the trace
pub parts_told : {S : Type 0} (setting : Setting S) (w : World) (before first second third after : List ℕ)
    (pool : List Sent) (injected : List Given) (takes : List Take) → pool ≡ w.pool → injected ≡ w.injected → takes ≡ w.takes
    → first ≡ before ++ packets_text pool → second ≡ first ++ injected_text injected → third ≡ second ++ takes_text takes
    → after ≡ third ++ report setting w → after ≡ before ++ trace setting w
unfolding trace
parts_told setting w before first second third after pool injected takes sent given taken one two three four =
    let p = packets_text w.pool in
    let i = injected_text w.injected in
    let t = takes_text w.takes in
    let r = report setting w in
    let with_packets : first ≡ before ++ p = one ∙ ap (λ x. before ++ packets_text x) sent in
    let with_injected : second ≡ (before ++ p) ++ i =
    two ∙ ap (λ x. x ++ injected_text injected) with_packets ∙ ap (λ x. (before ++ p) ++ injected_text x) given in
    let with_takes : third ≡ ((before ++ p) ++ i) ++ t =
    three ∙ ap (λ x. x ++ takes_text takes) with_injected ∙ ap (λ x. ((before ++ p) ++ i) ++ takes_text x) taken in
    four ∙ ap (λ x. x ++ r) with_takes ∙ four_parts before p i t r
