-- Why an entry stands where it does, and that two reasons never speak for different contents.
use Rattle.std.proofs.Common.{refl, ◌≡◌, ℕ, ◌+◌, ◌<◌, ◌≤◌, ◌⊎◌, List, length, sym, ap, subst, ◌∙◌, inl, inr, true, arith, Some}
use Rattle.std.specs.Prelude.{Bool, slice_get}
use Rattle.std.proofs.lemmas.Bool.{cases_order}
use Rattle.std.proofs.lemmas.Option.{slice_get_within}
use Rattle.nys_bytes.specs.declared.content.Content.{Content}
use Rattle.nys_hosts.specs.Counts.{AtLeast}
use Rattle.nys_agreement.specs.Net.{HasFewLiars, Net, quorum_in}
use Rattle.nys_agreement.specs.Said.{By, Has, Made, Vouches}
use Rattle.nys_agreement.specs.Said.Said.{Deliver, Report}
use Rattle.nys_agreement.specs.Assembly.{Assembly}
use Rattle.nys_agreement.proofs.Ledgers.{honest_vouch, LedgerOk, same_delivers, vouches_on}
use Rattle.nys_agreement.proofs.Votes.{barrier, VotesOk}
use Rattle.nys_agreement.proofs.Openings.{OpeningsOk}
use Rattle.nys_agreement.proofs.Later.{Later}

-- a quorum delivers the content in epoch e, at or past the base
pub record Certified (net : Net) (ledger : List Made) (base : ℕ → ℕ → ℕ) (e h s : ℕ) (c : Content) : Type 0 where
  pub above_base : base e h ≤ s
  pub delivers : AtLeast (quorum_in net e h) (Vouches net ledger e h (Deliver e h s c))

-- an honest guard delivered the content in an epoch for whose end it was decided: the last one, or one
-- whose next epoch begins past it
pub record Decision (ledger : List Made) (top : ℕ) (base : ℕ → ℕ → ℕ) (h s : ℕ) (c : Content) : Type 0 where
  pub epoch : ℕ
  pub above_base : base epoch h ≤ s
  pub maker : ℕ
  pub delivered : Has ledger (By maker (Deliver epoch h s c))
  pub bound : (epoch ≡ top) ⊎ ((epoch < top) × (s < base (epoch + 1) h))

-- an honest guard delivered what is reported
pub record Reported (ledger : List Made) (top : ℕ) (base : ℕ → ℕ → ℕ) (live : ℕ → ℕ → Bool) (e h s : ℕ) (c : Content) : Type 0 where
  pub opened : e ≤ top
  pub above_base : base e h ≤ s
  pub maker : ℕ
  pub delivered : Has ledger (By maker (Deliver e h s c))

-- why a node that is in epoch `now` has the entry: it is certified, or was inherited
abbrev pub IsLogged : Net → List Made → (ℕ → ℕ → ℕ) → (ℕ → List Content) → ℕ → ℕ → ℕ → Content → Type 0
IsLogged net ledger base decided now h s c =
    ((e : ℕ) × (e ≤ now) × Certified net ledger base e h s c) ⊎ ((s < base now h) × (slice_get (decided h) s ≡ Some c))

-- why an entry is in the longest log: it is certified, or was decided
abbrev pub IsKnown : Net → Assembly → ℕ → ℕ → Content → Type 0
IsKnown net w h s c = ((e : ℕ) × (e ≤ w.top) × Certified net w.ledger w.base e h s c) ⊎ (slice_get (w.decided h) s ≡ Some c)

-- every entry has such a reason
pub record Evidence (net : Net) (ledger : List Made) (epoch : ℕ → ℕ) (log : ℕ → ℕ → List Content) (top : ℕ) (decided : ℕ → List Content) (base : ℕ → ℕ → ℕ) (live : ℕ → ℕ → Bool) (longest : ℕ → List Content) : Type 0 where
  pub logs : (x h s : ℕ) (c : Content) → slice_get (log x h) s ≡ Some c → IsLogged net ledger base decided (epoch x) h s c
  pub decisions : (h s : ℕ) (c : Content) → slice_get (decided h) s ≡ Some c → Decision ledger top base h s c
  pub known : (h s : ℕ) (c : Content) → slice_get (longest h) s ≡ Some c → ((e : ℕ) × (e ≤ top) × Certified net ledger base e h s c) ⊎ (slice_get (decided h) s ≡ Some c)
  pub reports : (x e h s : ℕ) (c : Content) → Has ledger (By x (Report e h s c)) → Reported ledger top base live e h s c
  pub fits : (x h : ℕ) → length (log x h) ≤ length (longest h)
  pub decided_fits : (h : ℕ) → length (decided h) ≤ length (longest h)

-- every entry of the assembly has its reason
abbrev pub EvidenceOk : Net → Assembly → Type 0
EvidenceOk net w = Evidence net w.ledger w.epoch w.log w.top w.decided w.base w.live w.longest

-- reasons in a later assembly
pub certified_on : (net : Net) (w l : Assembly) → Later w l → (e h s : ℕ) (c : Content) → e ≤ w.top → Certified net w.ledger w.base e h s c → Certified net l.ledger l.base e h s c
certified_on net w l more e h s c le why = let a = more.base e h le in let b = why.above_base in record {
  above_base = omega arith;
  delivers = vouches_on net w.ledger l.ledger more.ledger e h (Deliver e h s c) why.delivers;
}

-- why a later assembly has the entry in its longest log
pub known_on : (net : Net) (w l : Assembly) → Later w l → (h s : ℕ) (c : Content) → IsKnown net w h s c → IsKnown net l h s c
known_on net w l more h s c (inl why) = let a = more.top in let b = why.1 in inl (why.0, omega arith, certified_on net w l more why.0 h s c why.1 why.2)
known_on net w l more h s c (inr get) = inr (more.decided h s c get)

-- why a node has it in a later assembly
pub logged_on : (net : Net) (w l : Assembly) → Later w l → VotesOk w → VotesOk l → OpeningsOk net l → (x h s : ℕ) (c : Content) → IsLogged net w.ledger w.base w.decided (w.epoch x) h s c → IsLogged net l.ledger l.base l.decided (l.epoch x) h s c
logged_on net w l more votes votes_l openings x h s c (inl why) =
    let a = more.epochs x in
    let b = why.1 in
    let d = votes.epochs x in
    inl (why.0, omega arith, certified_on net w l more why.0 h s c (omega arith) why.2)
logged_on net w l more votes votes_l openings x h s c (inr why) =
    let a = more.epochs x in
    let b = why.0 in
    let same = more.base (w.epoch x) h (votes.epochs x) in
    let up = openings.rises (w.epoch x) (l.epoch x) h a (votes_l.epochs x) in
    inr (omega arith, more.decided h s c why.1)

-- why it was decided, seen from a later assembly
pub decision_on : (w l : Assembly) → Later w l → (h s : ℕ) (c : Content) → slice_get (w.decided h) s ≡ Some c → Decision w.ledger w.top w.base h s c → Decision l.ledger l.top l.base h s c
decision_on w l more h s c get why = record {
  epoch = why.epoch;
  above_base = let a = more.base why.epoch h (old_epoch why.bound) in let b = why.above_base in omega arith;
  maker = why.maker;
  delivered = more.ledger (By why.maker (Deliver why.epoch h s c)) why.delivered;
  bound = elim why.bound [
    | inl last ↦ elim more.opened [
      | inl same ↦ inl (last ∙ sym same)
      | inr new ↦
          let a = new.1 h in
          let b = new.0 in
          let q : why.epoch + 1 ≡ w.top + 1 = omega arith in
          let t = ap (λ n. l.base n h) q in
          let long = slice_get_within (w.decided h) s c get in
          inr (omega arith, omega arith)
    ]
    | inr ended ↦
        let lt = ended.0 in
        let a = more.top in
        let b = more.base (why.epoch + 1) h (omega arith) in
        let d = ended.1 in
        inr (omega arith, omega arith)
  ];
}
  where
    old_epoch : {e top : ℕ} {P : Type 0} → (e ≡ top) ⊎ ((e < top) × P) → e ≤ top
    old_epoch (inl same) = omega arith
    old_epoch (inr ended) = let lt = ended.0 in omega arith

-- it was decided for the same epoch
pub decision_on_epoch : (w l : Assembly) (more : Later w l) (h s : ℕ) (c : Content) (get : slice_get (w.decided h) s ≡ Some c) (why : Decision w.ledger w.top w.base h s c) → (decision_on w l more h s c get why).epoch ≡ why.epoch
unfolding decision_on
decision_on_epoch w l more h s c get why = refl

-- why it was reported
pub reported_on : (w l : Assembly) → Later w l → (e h s : ℕ) (c : Content) → Reported w.ledger w.top w.base w.live e h s c → Reported l.ledger l.top l.base l.live e h s c
reported_on w l more e h s c why =
    let a = more.base e h why.opened in
    let b = why.above_base in
    let d = why.opened in
    let f = more.top in
    record {
      opened = omega arith;
      above_base = omega arith;
      maker = why.maker;
      delivered = more.ledger (By why.maker (Deliver e h s c)) why.delivered;
    }

-- what all reasons stand on
pub record Safe (net : Net) (w : Assembly) : Type 0 where
  pub few : HasFewLiars net
  pub ledger : LedgerOk net w.ledger
  pub votes : VotesOk w
  pub openings : OpeningsOk net w

-- an entry that is certified in an earlier epoch stands below the base of a later one in which the host lives
pub below : (net : Net) (w : Assembly) → Safe net w → (e l h s : ℕ) (c : Content) → Certified net w.ledger w.base e h s c → e < l → l ≤ w.top → w.live l h ≡ true → s < w.base l h
below net w safe e l h s c why lt le alive =
    let alive_next = safe.openings.lived (e + 1) l h (omega arith) le alive in
    let frozen = safe.openings.closed e h (omega arith) alive_next in
    let a = barrier net safe.few w safe.votes e h s (w.base (e + 1) h) c why.delivers frozen in
    let b = safe.openings.rises (e + 1) l h (omega arith) le in
    omega arith

-- an honest guard delivered what is certified, so the host lived
certified_deliver : (net : Net) (w : Assembly) → Safe net w → (e h s : ℕ) (c : Content) → Certified net w.ledger w.base e h s c → (x : ℕ) × Has w.ledger (By x (Deliver e h s c)) × (w.live e h ≡ true)
certified_deliver net w safe e h s c why =
    let x = honest_vouch net safe.few w.ledger e h (Deliver e h s c) why.delivers in
    (x.0, x.2, (safe.votes.delivers x.0 e h s c x.2).lives)

-- an earlier and a later certificate don't stand in one slot
not_below : (net : Net) (w : Assembly) → Safe net w → (e l h s : ℕ) (c d : Content) → Certified net w.ledger w.base e h s c → Certified net w.ledger w.base l h s d → e < l → l ≤ w.top → ⊥
not_below net w safe e l h s c d first second lt le =
    let x = certified_deliver net w safe l h s d second in
    let a = below net w safe e l h s c first lt le x.2 in
    let b = second.above_base in
    omega arith

-- two certificates for one slot are for one content
pub one_certified : (net : Net) (w : Assembly) → Safe net w → (e l h s : ℕ) (c d : Content) → e ≤ w.top → l ≤ w.top → Certified net w.ledger w.base e h s c → Certified net w.ledger w.base l h s d → c ≡ d
one_certified net w safe e l h s c d e_old l_old first second = elim (cases_order e l) [
  | inl same ↦
      let x = certified_deliver net w safe e h s c first in
      let y = certified_deliver net w safe l h s d second in
      same_delivers net safe.few w.ledger safe.ledger x.0 y.0 e h s c d x.1 (subst (λ n. Has w.ledger (By y.0 (Deliver n h s d))) (sym same) y.1)
  | inr (inl lt) ↦ absurd (not_below net w safe e l h s c d first second lt l_old)
  | inr (inr gt) ↦ absurd (not_below net w safe l e h s d c second first gt e_old)
]

-- nor a certificate and a decision of another content
pub certified_decided : (net : Net) (w : Assembly) → Safe net w → (e h s : ℕ) (c d : Content) → e ≤ w.top → Certified net w.ledger w.base e h s c → Decision w.ledger w.top w.base h s d → c ≡ d
certified_decided net w safe e h s c d e_old first second =
    let at = safe.votes.delivers second.maker second.epoch h s d second.delivered in
    let a = at.begun in
    let b = safe.votes.epochs second.maker in
    elim (cases_order e second.epoch) [
      | inl same ↦
          let x = certified_deliver net w safe e h s c first in
          same_delivers net safe.few w.ledger safe.ledger x.0 second.maker e h s c d x.1 (subst (λ n. Has w.ledger (By second.maker (Deliver n h s d))) (sym same) second.delivered)
      | inr (inl lt) ↦ absurd (let f = below net w safe e second.epoch h s c first lt (omega arith) at.lives in let g = second.above_base in omega arith)
      | inr (inr gt) ↦ absurd (elim second.bound [
        | inl last ↦ omega arith
        | inr ended ↦
            let f = safe.openings.rises (second.epoch + 1) e h (omega arith) e_old in
            let g = ended.1 in
            let i = first.above_base in
            omega arith
      ])
    ]

-- two reasons for one slot are reasons for one content
pub known_once : (net : Net) (w : Assembly) → Safe net w → EvidenceOk net w → (h s : ℕ) (c d : Content) → IsKnown net w h s c → IsKnown net w h s d → c ≡ d
known_once net w safe ok h s c d (inl a) (inl b) = one_certified net w safe a.0 b.0 h s c d a.1 b.1 a.2 b.2
known_once net w safe ok h s c d (inl a) (inr b) = certified_decided net w safe a.0 h s c d a.1 a.2 (ok.decisions h s d b)
known_once net w safe ok h s c d (inr a) (inl b) = sym (certified_decided net w safe b.0 h s d c b.1 b.2 (ok.decisions h s c a))
known_once net w safe ok h s c d (inr a) (inr b) = let e : Some c ≡ Some d = sym a ∙ b in cc

-- a logged entry is known
pub logged_known : (net : Net) (w : Assembly) → VotesOk w → (x h s : ℕ) (c : Content) → IsLogged net w.ledger w.base w.decided (w.epoch x) h s c → IsKnown net w h s c
logged_known net w votes x h s c (inl why) = let a = why.1 in let b = votes.epochs x in inl (why.0, omega arith, why.2)
logged_known net w votes x h s c (inr why) = inr why.1
