-- A view goes on to keep what it rests on, but for its votes: whichever rule it takes, whatever it notes.
use Rattle.std.proofs.Common.{◌≡◌, ℕ, ◌≤◌, ◌⊎◌, ◌==◌, ◌&&◌, Bool, true, false, ℤ, List, [], ◌∷◌, ◌++◌, length, Some, None, refl, ap, sym, subst, ◌∙◌, inl, inr, arith}
use Rattle.std.specs.Prelude.{Contains, Option, if◌then◌else◌, nat_lt, slice_get}
use Rattle.std.proofs.lemmas.Bool.Decides.{Decides-eqb, Decides-ltb}
use Rattle.nys_bytes.specs.declared.content.Content.{Content}
use Rattle.nys_bytes.specs.declared.content.Content.TheVariants.{External, Message}
use Rattle.nys_agreement.specs.Alone.{alone, Fits}
use Rattle.nys_agreement.proofs.AloneLemmas.{alone_keeps}
use Rattle.nys_agreement.proofs.TableLemmas.{put_at_case, put_case, put_there}
use Rattle.nys_hosts.proofs.CountLemmas.{AtLeast-map}
use Rattle.nys_source.specs.Rules.{Rules}
use Rattle.nys_source.specs.Tables.{put, put_at}
use Rattle.nys_stmt.specs.declared.statement.Body.TheVariants as body
use Rattle.nys_stmt.specs.declared.statement.FilledKind.TheVariants as kind
use Rattle.nys_stmt.specs.declared.statement.Statement.{Statement}
use Rattle.nys_stmt.specs.declared.tags.Tags.{Tags}
use Rattle.nys_votes.specs.Seats.{seat_of}
use Rattle.nys_rules.specs.Forged.{Entry, with_made}
use Rattle.nys_rules.specs.Heads.{with_heads}
use Rattle.nys_rules.specs.Logging.{fits, logged, with_entry}
use Rattle.nys_rules.specs.Noting.{at_desk, hearing, with_attests}
use Rattle.nys_rules.specs.Scope.{quorum_at, Scope}
use Rattle.nys_rules.specs.Sending.{said_in}
use Rattle.nys_rules.specs.declared.kept.Attested.{Attested}
use Rattle.nys_rules.specs.View.{attested_from, Desk, empty_desk, entering, is_attesting, length_of, next_number, sent_to, View, with_links}
use Rattle.nys_rules.specs.World.{Setting}
use Rattle.nys_rules.proofs.CertificateLemmas.{both_true}
use Rattle.nys_rules.proofs.SearchLemmas.{or_some}
use Rattle.nys_rules.proofs.SeatCases.{hearing_case}
use Rattle.nys_laws.specs.Rests.{AllFit, HasAttested, RestsDesk}
use Rattle.nys_laws.specs.Vouched.{GuardsLink, IsVouched, QuorumVouches}
use Rattle.nys_laws.proofs.DeskLemmas.{no_seat}
use Rattle.nys_laws.proofs.LedgerLemmas.{made_before}
use Rattle.nys_laws.proofs.LiveLemmas.{attesting_is}
use Rattle.nys_laws.proofs.RestsDesks.{empty_rests, more_rests}

-- a content that a quorum ordered for the open slot
abbrev pub OrderedAt : {S : Type 0} → Setting S → List Entry → View → (h : ℕ) → Content → Type 0
OrderedAt setting ledger v h content =
    QuorumVouches setting ledger v.epoch h (body.Filled kind.Order h (length_of v h) content)

-- what a desk of the view rests on
abbrev pub DeskOf : {S : Type 0} → Setting S → List Entry → View → (h : ℕ) → Desk → Type 0
DeskOf setting ledger v h desk =
    RestsDesk (setting.scope.guards v.epoch h) (OrderedAt setting ledger v h)
    (v.base h ≤ length_of v h) desk

-- what the view of the node of g rests on, but for its votes
pub record Backs {S : Type 0} (setting : Setting S) (g : ℕ) (ledger : List Entry) (v : View) : Type 0 where
  pub host : v.me ≡ g
  pub desks : (h : ℕ) → DeskOf setting ledger v h (v.desks h)
  pub heard : (p h k m : ℕ) (payload : List ℤ) → seat_of (v.heard p h k) m ≡ Some payload
      → GuardsLink setting.scope v.epoch p h m
  pub attested : (p h : ℕ) (range : Attested) → v.attested p h ≡ Some range
      → HasAttested setting.scope g ledger v.epoch p h (sent_to setting.scope v p h) range
  pub logs : (h : ℕ) → AllFit setting.scope.rules h (v.logs h)

-- a quorum vouches where more was made
quorum_more : {S : Type 0} (setting : Setting S) (party : ℕ) (made : List Statement) (ledger : List Entry) (v : View) (h : ℕ)
    (content : Content)
    → OrderedAt setting ledger v h content → OrderedAt setting (with_made party made ledger) v h content
quorum_more setting party made ledger v h content some =
    AtLeast-map (quorum_at setting.scope v.epoch h)
    (IsVouched setting ledger v.epoch h (body.Filled kind.Order h (length_of v h) content))
    (IsVouched setting (with_made party made ledger) v.epoch h (body.Filled kind.Order h (length_of v h) content))
    (λ m was. (was.0, λ honest. made_before party made ledger m (said_in v.epoch (body.Filled kind.Order h (length_of v h) content)) (was.1 honest)))
    some

-- numbers that were attested stay so where more was made
attested_more : {S : Type 0} (scope : Scope S) (g party : ℕ) (made : List Statement) (ledger : List Entry) (e p h : ℕ)
    (sent : List (List ℤ)) (range : Attested)
    → HasAttested scope g ledger e p h sent range
    → HasAttested scope g (with_made party made ledger) e p h sent range
attested_more scope g party made ledger e p h sent range k = record {
  guards = k.guards;
  made = λ n low high.
      let was = k.made n low high in
      (was.0, was.1, made_before party made ledger g (said_in e (body.Attest p h n was.0)) was.2);
}

-- where more was made
pub backs_more : {S : Type 0} (setting : Setting S) (g party : ℕ) (made : List Statement) (ledger : List Entry) (v : View)
    → Backs setting g ledger v → Backs setting g (with_made party made ledger) v
backs_more setting g party made ledger v k = record {
  host = k.host;
  desks = λ h.
      more_rests (setting.scope.guards v.epoch h) (OrderedAt setting ledger v h) (OrderedAt setting (with_made party made ledger) v h)
      (v.base h ≤ length_of v h) (v.desks h) (quorum_more setting party made ledger v h) (k.desks h);
  heard = k.heard;
  attested = λ p h range is.
      attested_more setting.scope g party made ledger v.epoch p h (sent_to setting.scope v p h) range (k.attested p h range is);
  logs = k.logs;
}

-- a desk that changes
pub backs_desk : {S : Type 0} (setting : Setting S) (g : ℕ) (ledger : List Entry) (h : ℕ) (change : Desk → Desk) (v : View)
    → (DeskOf setting ledger v h (v.desks h) → DeskOf setting ledger v h (change (v.desks h)))
    → Backs setting g ledger v → Backs setting g ledger (at_desk h change v)
unfolding sent_to
backs_desk setting g ledger h change v keeps k = record {
  host = k.host;
  desks = λ x.
      put_case (DeskOf setting ledger v x) v.desks h (change (v.desks h)) x
      (λ e. subst (λ y. DeskOf setting ledger v y (change (v.desks h))) (sym e) (keeps (k.desks h)))
      (λ ne. k.desks x);
  heard = k.heard;
  attested = k.attested;
  logs = k.logs;
}

-- heads that are recorded
pub backs_heads : {S : Type 0} (setting : Setting S) (g : ℕ) (ledger : List Entry) (h : ℕ) (v : View)
    → Backs setting g ledger v → Backs setting g ledger (with_heads setting.scope h v)
unfolding with_heads sent_to
backs_heads setting g ledger h v k = record {
  host = k.host;
  desks = k.desks;
  heard = k.heard;
  attested = k.attested;
  logs = k.logs;
}

-- a link that is attested from now on has no number yet
from_now : {S : Type 0} (scope : Scope S) (g : ℕ) (ledger : List Entry) (v : View) (p h : ℕ) (sent : List (List ℤ)) (range : Attested)
    → v.me ≡ g → attested_from scope v p h ≡ Some range
    → HasAttested scope g ledger v.epoch p h sent range
from_now {S} scope g ledger v p h sent range host is = by (is_attesting scope v p h) refl is
  where
    n : ℕ
    n = next_number scope v p h

    by : (b : Bool) → is_attesting scope v p h ≡ b
        → (if b then Some (record { first = n; next = n }) else None) ≡ Some range
        → HasAttested scope g ledger v.epoch p h sent range
    by true attests e =
        let same : record { first = n; next = n } ≡ range = cc in
        let first = ap (λ (r : Attested). r.first) same in
        let next = ap (λ (r : Attested). r.next) same in
        record {
          guards = subst (GuardsLink scope v.epoch p h) host (attesting_is scope v p h attests);
          made = λ k low high. absurd (omega (arith, low, high, first, next));
        }
    by false attests e = absurd (cc)

-- links that begin to be attested
backs_links : {S : Type 0} (setting : Setting S) (g : ℕ) (ledger : List Entry) (v : View)
    → Backs setting g ledger v → Backs setting g ledger (with_links setting.scope v)
unfolding with_links sent_to
backs_links setting g ledger v k = record {
  host = k.host;
  desks = k.desks;
  heard = k.heard;
  attested = λ p h range is. elim (or_some (v.attested p h) (attested_from setting.scope v p h) range is) [
    | inl old ↦ k.attested p h range old
    | inr new ↦ from_now setting.scope g ledger v p h _ range k.host new.1
  ];
  logs = k.logs;
}

-- what a log sent it has sent once it is longer
sent_more : {S : Type 0} (rules : Rules S) (logs : ℕ → List Content) (h : ℕ) (content : Content) (p x k : ℕ) (payload : List ℤ)
    → slice_get ((alone rules p (logs p)).sent p x) k ≡ Some payload
    → slice_get ((alone rules p (put logs h (logs h ++ content ∷ []) p)).sent p x) k ≡ Some payload
sent_more rules logs h content p x k payload e =
    put_case (λ log. slice_get ((alone rules p log).sent p x) k ≡ Some payload) logs h (logs h ++ content ∷ []) p
    (λ here. alone_keeps rules p (logs h) (content ∷ []) x k payload
    (subst (λ y. slice_get ((alone rules p (logs y)).sent p x) k ≡ Some payload) here e))
    (λ other. e)

-- a list that ends in one more element, taken apart
split_last : {A : Type 0} (xs before rest : List A) (x y : A) → xs ++ x ∷ [] ≡ before ++ y ∷ rest
    → ((before ≡ xs) × (y ≡ x)) ⊎ ((more : List A) × (xs ≡ before ++ y ∷ more))
split_last [] [] rest x y e = inl (refl, cc)
split_last [] (b ∷ []) rest x y e = absurd (cc)
split_last [] (b ∷ c ∷ before) rest x y e = absurd (cc)
split_last (z ∷ xs) [] rest x y e = inr (xs, cc)
split_last (z ∷ xs) (b ∷ before) rest x y e =
    let first : z ≡ b = cc in
    let others : xs ++ x ∷ [] ≡ before ++ y ∷ rest = cc in
    elim (split_last xs before rest x y others) [
      | inl last ↦ inl (ap (λ l. b ∷ l) last.0 ∙ ap (λ c. c ∷ xs) (sym first), last.1)
      | inr inner ↦ inr (inner.0, ap (λ l. z ∷ l) inner.1 ∙ ap (λ c. c ∷ before ++ y ∷ inner.0) first)
    ]

-- a content that fits is one more of a log that fits
fit_more : {S : Type 0} (rules : Rules S) (h : ℕ) (log : List Content) (content : Content)
    → Fits rules h log content → AllFit rules h log → AllFit rules h (log ++ content ∷ [])
fit_more rules h log content new all before rest c e = elim (split_last log before rest content c e) [
  | inl last ↦ subst (λ l. Fits rules h l c) (sym last.0) (subst (Fits rules h log) (sym last.1) new)
  | inr inner ↦ all before inner.0 c inner.1
]

-- an entry of a log
backs_entry : {S : Type 0} (setting : Setting S) (g : ℕ) (ledger : List Entry) (h : ℕ) (content : Content) (v : View)
    → Fits setting.scope.rules h (v.logs h) content
    → Backs setting g ledger v → Backs setting g ledger (with_entry h content v)
unfolding sent_to
backs_entry {S} setting g ledger h content v new k = record {
  host = k.host;
  desks = λ x.
      put_case (DeskOf setting ledger after x) v.desks h empty_desk x
      (λ e. empty_rests (setting.scope.guards v.epoch x) (OrderedAt setting ledger after x) (v.base x ≤ length_of after x))
      (λ ne. subst (λ log. RestsDesk (setting.scope.guards v.epoch x)
      (λ c. QuorumVouches setting ledger v.epoch x (body.Filled kind.Order x (length log) c)) (v.base x ≤ length log) (v.desks x))
      (sym (put_there v.logs h (v.logs h ++ content ∷ []) x ne)) (k.desks x));
  heard = k.heard;
  attested = λ p x range is.
      let was = k.attested p x range is in
      record {
        guards = was.guards;
        made = λ n low high.
            let one = was.made n low high in
            (one.0, sent_more setting.scope.rules v.logs h content p x n one.0 one.1, one.2);
      };
  logs = λ x.
      put_case (AllFit setting.scope.rules x) v.logs h (v.logs h ++ content ∷ []) x
      (λ e. subst (λ y. AllFit setting.scope.rules y (v.logs h ++ content ∷ [])) (sym e)
      (fit_more setting.scope.rules h (v.logs h) content new (k.logs h)))
      (λ ne. k.logs x);
}
  where
    after : View
    after = with_entry h content v

-- a log that grows
pub backs_logged : {S : Type 0} (setting : Setting S) (g : ℕ) (ledger : List Entry) (h : ℕ) (content : Content) (v : View)
    → Fits setting.scope.rules h (v.logs h) content
    → Backs setting g ledger v → Backs setting g ledger (logged setting.scope h content v)
unfolding logged
backs_logged setting g ledger h content v new k =
    backs_heads setting g ledger h (with_links setting.scope (with_entry h content v))
    (backs_links setting g ledger (with_entry h content v) (backs_entry setting g ledger h content v new k))

-- an epoch that begins
pub backs_entering : {S : Type 0} (setting : Setting S) (g : ℕ) (ledger : List Entry) (e : ℕ) (base : ℕ → ℕ) (retired : ℕ → Bool)
    (v : View) → v.me ≡ g → ((h : ℕ) → AllFit setting.scope.rules h (v.logs h))
    → Backs setting g ledger (entering setting.scope e base retired v)
unfolding entering
backs_entering setting g ledger e base retired v host fit =
    backs_links setting g ledger _ (record {
      host = host;
      desks = λ h. empty_rests (setting.scope.guards e h)
          (λ c. QuorumVouches setting ledger e h (body.Filled kind.Order h (length_of v h) c)) (base h ≤ length_of v h);
      heard = λ p h k m payload is. absurd (no_seat m payload is);
      attested = λ p h range is. absurd (cc);
      logs = fit;
    })

-- attestations that are heard, of makers that guard both ends
pub backs_attests : {S : Type 0} (setting : Setting S) (g : ℕ) (ledger : List Entry) (p h n : ℕ) (payload : List ℤ)
    (makers : List Tags) (v : View)
    → ((t : Tags) → Contains makers t → GuardsLink setting.scope v.epoch p h t.maker)
    → Backs setting g ledger v → Backs setting g ledger (with_attests p h n payload makers v)
unfolding with_attests sent_to
backs_attests {S} setting g ledger p h n payload makers v guard k = record {
  host = k.host;
  desks = k.desks;
  heard = λ x y z.
      put_case (λ (f : ℕ → ℕ → List (Option (List ℤ))). Holds x y (f y z)) v.heard p
      (put_at (v.heard p) h n (hearing payload makers (v.heard p h n))) x
      (λ e.
      put_at_case (Holds x y) (v.heard p) h n (hearing payload makers (v.heard p h n)) y z
      (λ a b.
      subst (λ i. Holds i y (hearing payload makers (v.heard p h n))) (sym e)
      (subst (λ i. Holds p i (hearing payload makers (v.heard p h n))) (sym a) new))
      (λ other. subst (λ i. Holds x y (v.heard i y z)) e (k.heard x y z)))
      (λ ne. k.heard x y z);
  attested = k.attested;
  logs = k.logs;
}
  where
    Holds : (x y : ℕ) → List (Option (List ℤ)) → Type 0
    Holds x y seats = (m : ℕ) (told : List ℤ) → seat_of seats m ≡ Some told
        → GuardsLink setting.scope v.epoch x y m

    new : Holds p h (hearing payload makers (v.heard p h n))
    new m told is = elim (hearing_case payload makers (v.heard p h n) m told is) [
      | inl old ↦ k.heard p h n m told old
      | inr now ↦ subst (GuardsLink setting.scope v.epoch p h) now.2 (guard now.0 now.1)
    ]

-- a content that passes the test fits
pub fits_is : {S : Type 0} (scope : Scope S) (v : View) (h : ℕ) (content : Content) → fits scope v h content ≡ true
    → Fits scope.rules h (v.logs h) content
unfolding fits next_number
fits_is scope v h (External payload) e = tt
fits_is scope v h (Message p k payload) e =
    let next = k == next_number scope v p h in
    let first = both_true (nat_lt p scope.rules.hosts) (scope.rules.linked p h && next) e in
    let rest = both_true (scope.rules.linked p h) next first.1 in
    ((Decides-ltb p scope.rules.hosts).0 first.0, rest.0, (Decides-eqb k (next_number scope v p h)).0 rest.1)
