use Rattle.std.proofs.Common.{◌≡◌, ◌++◌, [], ◌∷◌, ◌∙◌, length, map, ap, sym, arith}
use Rattle.std.proofs.lemmas.List.{length-append, map-append}
use Rattle.std.specs.Prelude.{Some, None, if◌then◌else◌}
use Rattle.std.specs.List.{range_with_len}
use Rattle.nys_config.specs.Scopes.{scope_of}
use Rattle.nys_olympus.proofs.Listing.{range_next}
use Rattle.nys_olympus.proofs.olympus.Olympus.lengths.Goals as goal

-- one host more
pub loop-h-preserved : goal.loop-h-preserved
loop-h-preserved g c = (
  λ o view.
      c.in_ok-push.ensures.ok
      ∙ ap (λ l. l ++ c.length_told.result ∷ []) (c.loop-h.invariant.0 o view)
      ∙ ap (λ x. map (λ h. if o.retired h then None else Some (length (o.decided h))) (range_with_len 0 c.loop-h.h) ++ x ∷ []) (c.length_told.ensures.value (scope_of (g.P.Protocol.rules c.args.cx.now.protocol) c.args.cx.now) o view)
      ∙ sym (map-append (λ h. if o.retired h then None else Some (length (o.decided h))) (range_with_len 0 c.loop-h.h) (c.loop-h.h ∷ []))
      ∙ ap (λ hosts. map (λ h. if o.retired h then None else Some (length (o.decided h))) hosts) (sym (range_next c.loop-h.h)),
  let more = ap length c.in_ok-push.ensures.ok ∙ length-append c.loop-h.lengths (c.length_told.result ∷ []) in omega (arith, more, c.loop-h.invariant.1),
)

-- all hosts
pub returns : goal.returns
unfolding scope_of
returns g c = record {
  some = omega (arith, c.loop-h.invariant.1, c.loop-h-test.false, c.hosts-h-end.ensures.some);
  value = λ o view.
      let all : c.loop-h.h ≡ (g.P.Protocol.rules c.args.cx.now.protocol).hosts = omega (arith, c.loop-h-test.false, c.loop-h.auto.h-end, c.hosts-h-end.ensures.value) in
      c.loop-h.invariant.0 o view ∙ ap (λ n. map (λ h. if o.retired h then None else Some (length (o.decided h))) (range_with_len 0 n)) all;
}
