-- The end of an event in which a party took a statement that its maker hadn't made.
use Rattle.std.proofs.Common.{◌≡◌, ℕ, Some, ap, ◌∙◌, inl, inr, ◌⊎◌}
use Rattle.std.specs.Prelude.{List, Option}
use Rattle.nys_ledger.specs.Shelves.{Owns, Shares}
use Rattle.nys_stmt.specs.declared.statement.Statement.{Statement}
use Rattle.nys_stmt.specs.Same.{DoClash}
use Rattle.nys_rules.specs.declared.notice.End.{End}
use Rattle.nys_rules.specs.declared.notice.End.TheVariants.{Clash, Forged, NoMemory}
use Rattle.nys_rules.specs.Forged.{Entry}
use Rattle.nys_rules.specs.Happening.{IsForged, TellsOf}
use Rattle.nys_rules.specs.World.{Setting, World}
use Rattle.nys_world.specs.Forgeries.{TellsForged}
use Rattle.nys_world.specs.Shows.{Keeps}
use Rattle.nys_world.specs.declared.books.Books.{Books}

-- the maker made nothing that clashes: it is forged
pub untrue_forged : (books : Books) (w : World) (maker taker : ℕ) (taken : Statement) → Keeps books w
    → ((other : Statement) → Owns books.ledger maker other → DoClash other taken → ⊥)
    → TellsOf w.ledger w.events maker taker taken (Forged books.events maker taker taken)
untrue_forged books w maker taker taken k none = inl (
  (λ other made clash. none other ((k.ledger maker other).1 made) clash),
  ap (λ event. Forged event maker taker taken) k.events,
)

-- it made another of the same spelling: they clash
pub untrue_clash : (books : Books) (w : World) (maker taker : ℕ) (first taken : Statement) (end : End) → Keeps books w
    → Shares books.ledger maker taken first → ((end ≡ NoMemory) ⊎ (end ≡ Clash books.events maker taker first taken))
    → (end ≡ NoMemory) ⊎ TellsOf w.ledger w.events maker taker taken end
untrue_clash books w maker taker first taken end k shares told = elim told [
  | inl none ↦ inl none
  | inr is ↦
      inr (inr (first, (k.shared maker taken first).0 shares, is ∙ ap (λ event. Clash event maker taker first taken) k.events))
]

-- what is told of the first maker that hadn't made it
pub told_of : {S : Type 0} (setting : Setting S) (ledger : List Entry) (event taker : ℕ) (said : Option Statement) (statement : Statement)
    (makers : List ℕ) (maker : ℕ) (end : End) → said ≡ Some statement → IsForged setting ledger statement makers maker
    → ((end ≡ NoMemory) ⊎ TellsOf ledger event maker taker statement end)
    → (end ≡ NoMemory) ⊎ TellsForged setting ledger event taker said makers end
told_of setting ledger event taker said statement makers maker end is forged told = elim told [
  | inl none ↦ inl none
  | inr tells ↦ rw is (inr (maker, forged, tells))
]
