-- What one ledger tells, whatever else happened: who says it, that it is said once, and what a Deliver rests on.
use Rattle.std.proofs.Common.{◌≡◌, ℕ, ◌+◌, List, [], ◌∷◌, subst, inl, inr, false}
use Rattle.nys_bytes.specs.declared.content.Content.{Content}
use Rattle.nys_hosts.specs.Counts.{AtLeast}
use Rattle.nys_hosts.proofs.QuorumLemmas.{AtLeast-honest, AtLeast-shared}
use Rattle.nys_source.specs.Rules.{Rules}
use Rattle.nys_agreement.specs.Net.{HasFewLiars, Net, quorum_in}
use Rattle.nys_agreement.specs.Said.{By, FrozeBy, Has, Made, Said, Vouches}
use Rattle.nys_agreement.specs.Said.Said.{Attest, Deliver, Frozen, Offer, Order, Report}
use Rattle.nys_agreement.specs.Assembly.{Assembly}
use Rattle.nys_agreement.specs.Events.{MaySay}
use Rattle.nys_agreement.specs.Claims.{AreFirst, IsFirst}

-- what makers of one fact say of another
pub at_least_map : {n : ℕ} (P Q : ℕ → Type 0) → ((m : ℕ) → P m → Q m) → AtLeast n P → AtLeast n Q
at_least_map P Q f some = record { makers = some.makers; each = λ m e. f m (some.each m e); enough = some.enough }

-- who vouches still does where more was said
pub vouches_on : (net : Net) (old new : List Made) → ((x : Made) → Has old x → Has new x) → (e h : ℕ) (said : Said) {n : ℕ} → AtLeast n (Vouches net old e h said) → AtLeast n (Vouches net new e h said)
vouches_on net old new more e h said some =
    at_least_map (Vouches net old e h said) (Vouches net new e h said) (λ m v. (v.0, λ honest. more (By m said) (v.1 honest))) some

-- who is frozen still is where more was said
pub froze_on : (net : Net) (old new : List Made) → ((x : Made) → Has old x → Has new x) → (e h f : ℕ) {n : ℕ} → AtLeast n (FrozeBy net old e h f) → AtLeast n (FrozeBy net new e h f)
froze_on net old new more e h f some =
    at_least_map (FrozeBy net old e h f) (FrozeBy net new e h f)
    (λ m v. (v.0, λ honest. let at = v.1 honest in (at.0, at.1, more (By m (Frozen e h at.0)) at.2))) some

-- makers, and what their Delivers rest on
pub record LedgerOk (net : Net) (ledger : List Made) : Type 0 where
  -- no liar's statement is kept
  pub honest : (m : ℕ) (said : Said) → Has ledger (By m said) → net.liars m ≡ false
  pub first : AreFirst ledger
  -- a quorum ordered what is delivered
  pub backed : (m e h s : ℕ) (c : Content) → Has ledger (By m (Deliver e h s c)) → AtLeast (quorum_in net e h) (Vouches net ledger e h (Order e h s c))

-- a party orders one content for a slot
pub one_order : (ledger : List Made) → AreFirst ledger → (m e h s : ℕ) (c d : Content) → Has ledger (By m (Order e h s c)) → Has ledger (By m (Order e h s d)) → c ≡ d
one_order [] first m e h s c d a b = absurd a
one_order (x ∷ older) first m e h s c d (inl a) (inl b) = cc
one_order (x ∷ older) first m e h s c d (inl a) (inr b) = absurd (let new = subst (IsFirst older) a first.0 in new d b)
one_order (x ∷ older) first m e h s c d (inr a) (inl b) = absurd (let new = subst (IsFirst older) b first.0 in new c a)
one_order (x ∷ older) first m e h s c d (inr a) (inr b) = one_order older first.1 m e h s c d a b

-- an honest guard ordered what a quorum vouches for
pub honest_vouch : (net : Net) → HasFewLiars net → (ledger : List Made) (e h : ℕ) (said : Said) → AtLeast (quorum_in net e h) (Vouches net ledger e h said) → (m : ℕ) × (net.liars m ≡ false) × Has ledger (By m said)
honest_vouch net good ledger e h said some =
    let x = AtLeast-shared (net.t e h) (net.guards e h) net.liars (Vouches net ledger e h said) (Vouches net ledger e h said) (λ m v. v.0) (λ m v. v.0) (good.few e h) some some in
    (x.0, x.4, x.2.1 x.4)

-- of t + 1 guards that vouch an honest one said it
pub honest_voucher : (net : Net) → HasFewLiars net → (ledger : List Made) (e h : ℕ) (said : Said) → AtLeast (net.t e h + 1) (Vouches net ledger e h said) → (m : ℕ) × (net.liars m ≡ false) × Has ledger (By m said)
honest_voucher net good ledger e h said some =
    let x = AtLeast-honest (net.t e h) (net.guards e h) net.liars (Vouches net ledger e h said) (λ m v. v.0) (good.few e h) some in
    (x.0, x.3, x.2.1 x.3)

-- two quorums of Orders share an honest guard, which ordered one content
pub same_delivers : (net : Net) → HasFewLiars net → (ledger : List Made) → LedgerOk net ledger → (a b e h s : ℕ) (c d : Content) → Has ledger (By a (Deliver e h s c)) → Has ledger (By b (Deliver e h s d)) → c ≡ d
same_delivers net good ledger ok a b e h s c d first second =
    let x = AtLeast-shared (net.t e h) (net.guards e h) net.liars (Vouches net ledger e h (Order e h s c)) (Vouches net ledger e h (Order e h s d))
    (λ m v. v.0) (λ m v. v.0) (good.few e h) (ok.backed a e h s c first) (ok.backed b e h s d second) in
    one_order ledger ok.first x.0 e h s c d (x.2.1 x.4) (x.3.1 x.4)

-- who may say something is honest
pub says_honest : {S : Type 0} (rules : Rules S) (net : Net) (w : Assembly) (g : ℕ) (said : Said) → MaySay rules net w g said → net.liars g ≡ false
says_honest rules net w g (Offer e h s c) may = may.0.honest
says_honest rules net w g (Order e h s c) may = may.0.honest
says_honest rules net w g (Deliver e h s c) may = may.0.honest
says_honest rules net w g (Attest e p h k payload) may = may.0
says_honest rules net w g (Report e h s c) may = may.0
says_honest rules net w g (Frozen e h f) may = may.0

-- what may be said is the first of its kind there
says_first : {S : Type 0} (rules : Rules S) (net : Net) (w : Assembly) (g : ℕ) (said : Said) → MaySay rules net w g said → IsFirst w.ledger (By g said)
says_first rules net w g (Offer e h s c) may = may.2
says_first rules net w g (Order e h s c) may = may.1
says_first rules net w g (Deliver e h s c) may = may.1
says_first rules net w g (Attest e p h k payload) may = tt
says_first rules net w g (Report e h s c) may = tt
says_first rules net w g (Frozen e h f) may = tt

-- a Deliver that may be made rests on a quorum of Orders, also where it follows t + 1 others
says_backed : {S : Type 0} (rules : Rules S) (net : Net) → HasFewLiars net → (w : Assembly) → LedgerOk net w.ledger → (g e h s : ℕ) (c : Content) → MaySay rules net w g (Deliver e h s c) → AtLeast (quorum_in net e h) (Vouches net w.ledger e h (Order e h s c))
says_backed rules net good w ok g e h s c may = elim may.2 [
  | inl orders ↦ orders
  | inr delivers ↦ let x = honest_voucher net good w.ledger e h (Deliver e h s c) delivers in ok.backed x.0 e h s c x.2
]

-- the ledger grows by what may be said
pub ledger_says : {S : Type 0} (rules : Rules S) (net : Net) → HasFewLiars net → (w : Assembly) → LedgerOk net w.ledger → (g : ℕ) (said : Said) → MaySay rules net w g said → LedgerOk net (By g said ∷ w.ledger)
ledger_says rules net good w ok g said may = record {
  honest = λ m other has. elim has [
    | inl new ↦ let e : g ≡ m = cc in subst (λ (x : ℕ). net.liars x ≡ false) e (says_honest rules net w g said may)
    | inr old ↦ ok.honest m other old
  ];
  first = (says_first rules net w g said may, ok.first);
  backed = λ m e h s c has. vouches_on net w.ledger (By g said ∷ w.ledger) (λ x y. inr y) e h (Order e h s c) (elim has [
    | inl new ↦
        let who : g ≡ m = cc in
        let what : said ≡ Deliver e h s c = cc in
        says_backed rules net good w ok g e h s c (subst (MaySay rules net w g) what may)
    | inr old ↦ ok.backed m e h s c old
  ]);
}
