use Rattle.std.proofs.Common.{◌≡◌, ◌+◌, ◌-◌, ◌++◌, [], ◌∷◌, length, ap, sym, ◌∙◌, arith}
use Rattle.std.proofs.lemmas.List.{append_assoc, append-nil, length-append}
use Rattle.nys_olympus.specs.Supports.{followed, supports_of}
use Rattle.nys_olympus.proofs.Supporting.{supports_left}
use Rattle.nys_olympus.proofs.deciding.supporting.Goals as goal

-- before the first slot
pub loop-i-init : goal.loop-i-init
loop-i-init c =
    let none : c.args.base + 0 ≡ c.args.base = omega arith in
    let few = ap length c.new-contents.ensures.items in (
      ap (λ xs. xs ++ supports_of 1024 c.args.t c.args.docket.now (c.args.base + 0)) c.new-contents.ensures.items ∙ ap (λ s. supports_of 1024 c.args.t c.args.docket.now s) none,
      omega (arith, few),
    )

-- the first slot that isn't supported
pub returns-in-None : goal.returns-in-None
returns-in-None c =
    record {
      value = sym (append-nil c.loop-i.contents.items)
          ∙ ap (λ xs. c.loop-i.contents.items ++ xs) (sym (supports_left c.args.t c.args.docket.now (c.args.base + c.loop-i.i) c.loop-i.i c.loop-i-test.true
          ∙ ap (λ f. followed f (supports_of (1024 - (c.loop-i.i + 1)) c.args.t c.args.docket.now (c.args.base + c.loop-i.i + 1))) (sym c.in-None.ensures)))
          ∙ c.loop-i.invariant.0;
      few = omega (arith, c.loop-i.invariant.1, c.loop-i-test.true);
    }

-- one slot more is supported
pub loop-i-preserved : goal.loop-i-preserved
loop-i-preserved c =
    let next : c.args.base + (c.loop-i.i + 1) ≡ c.args.base + c.loop-i.i + 1 = omega arith in
    let more = ap length c.in_ok-push-in-Some.ensures.items ∙ length-append c.loop-i.contents.items (c.in_ok-content-in-Some.content ∷ []) in (
      ap (λ xs. xs ++ supports_of (1024 - (c.loop-i.i + 1)) c.args.t c.args.docket.now (c.args.base + (c.loop-i.i + 1))) c.in_ok-push-in-Some.ensures.items
          ∙ ap (λ s. (c.loop-i.contents.items ++ c.in_ok-content-in-Some.content ∷ []) ++ supports_of (1024 - (c.loop-i.i + 1)) c.args.t c.args.docket.now s) next
          ∙ append_assoc c.loop-i.contents.items (c.in_ok-content-in-Some.content ∷ []) (supports_of (1024 - (c.loop-i.i + 1)) c.args.t c.args.docket.now (c.args.base + c.loop-i.i + 1))
          ∙ ap (λ x. c.loop-i.contents.items ++ x ∷ supports_of (1024 - (c.loop-i.i + 1)) c.args.t c.args.docket.now (c.args.base + c.loop-i.i + 1)) c.in_ok-content-in-Some.ensures
          ∙ ap (λ xs. c.loop-i.contents.items ++ xs) (sym (supports_left c.args.t c.args.docket.now (c.args.base + c.loop-i.i) c.loop-i.i c.loop-i-test.true
          ∙ ap (λ f. followed f (supports_of (1024 - (c.loop-i.i + 1)) c.args.t c.args.docket.now (c.args.base + c.loop-i.i + 1))) (sym c.in-Some.ensures)))
          ∙ c.loop-i.invariant.0,
      omega (arith, more, c.loop-i.invariant.1),
    )

-- all slots are supported
pub returns : goal.returns
returns c =
    let end : 1024 - c.loop-i.i ≡ 0 = omega (arith, c.loop-i-test.false) in
    record {
      value = sym (append-nil c.loop-i.contents.items)
          ∙ ap (λ n. c.loop-i.contents.items ++ supports_of n c.args.t c.args.docket.now (c.args.base + c.loop-i.i)) (sym end) ∙ c.loop-i.invariant.0;
      few = omega (arith, c.loop-i.invariant.1, c.loop-i.auto.i-end);
    }
