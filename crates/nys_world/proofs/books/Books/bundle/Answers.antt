-- Each packet was sent, so there is a bundle.
use Rattle.std.proofs.Common.{◌≡◌, ◌∙◌, ℕ, None, ap, length, not, subst, sym, arith}
use Rattle.std.specs.Prelude.{find, nat_lt, Option}
use Rattle.nys_rules.specs.Happening.{bundle_or_end}
use Rattle.nys_world.specs.Outcomes.{Happened}
use Rattle.nys_world.specs.Shows.{Keeps}
use Rattle.nys_world.proofs.books.Books.bundle.Goals as goal

pub returns-in-None : goal.returns-in-None
returns-in-None c = λ w keeps.
    let packets = c.args.packets.now in
    let have : c.len-have.result ≡ length w.pool = omega (arith, ap length keeps.pool) in
    let none : find (λ k. not (nat_lt k (length w.pool))) packets ≡ None
    = ap (λ (n : ℕ). find (λ k. not (nat_lt k n)) packets) (sym have) ∙ sym c.in-None.ensures.first in
    subst (λ (o : Option ℕ). Happened (λ _ next. Keeps c.send_bundle.new.self next) (λ r. r ≡ bundle_or_end w c.args.from c.args.to.now packets o) c.send_bundle.result)
    (sym none) (c.send_bundle.ensures w keeps)
