use Rattle.std.proofs.Common.{◌≡◌, ℕ, sym, ◌<◌, ◌++◌, ◌∙◌, true, length, [], ◌∷◌, ap, refl, arith}
use Rattle.std.specs.Prelude.{filter, nat_lt, slice_get, Some}
use Rattle.std.proofs.lemmas.Option.{slice_get_read}
use Rattle.nys_hosts.specs.Sets.{has}
use Rattle.nys_node.proofs.HostLemmas.{above_more, among_more, members_with, no_members, none_found}
use Rattle.nys_node.proofs.handle.hosts_among.Goals as goal

-- no maker was looked at
pub loop-i-init : goal.loop-i-init
loop-i-init c = (no_members c.empty-found.result c.empty-found.ensures, λ k is. none_found (c.empty-found.ensures k) is)

-- one maker more was looked at
pub loop-i-preserved : goal.loop-i-preserved
loop-i-preserved c =
    let makers = c.args.makers.now in
    let i = c.loop-i.i in
    let t = c.index-makers-i.result in
    let inside : i < length makers = omega (arith, c.loop-i-test.true) in
    let at : slice_get makers i ≡ Some t = slice_get_read makers (length makers) i t refl inside c.index-makers-i.is in
    let above : (k : ℕ) → has c.loop-i.found k ≡ true → k < t.maker = λ k is. c.loop-i.invariant.1 k is i t (omega arith) at in (
      members_with c.loop-i.found c.with_maker-found.result t.maker c.with_maker-found.ensures above
          ∙ ap (λ hosts. hosts ++ filter (λ x. nat_lt x 32) (t.maker ∷ [])) c.loop-i.invariant.0 ∙ sym (among_more makers i t at),
      above_more makers i t at c.requires.rising c.loop-i.found c.with_maker-found.result c.with_maker-found.ensures c.loop-i.invariant.1,
    )
