-- What a node told the Olympus of its epoch, by its view: nothing until it is wedged; then its log, its last vote,
-- and the slot behind its votes. And how far its votes and its logs go.
use Rattle.std.proofs.Common.{◌≡◌, ◌≢◌, ℕ, ◌+◌, ◌≤◌, ◌⊎◌, false, true, List, [], ◌∷◌, length, Some, ap, sym, subst, ◌∙◌, inl, inr, arith}
use Rattle.std.specs.Prelude.{Contains, slice_get}
use Rattle.nys_bytes.specs.declared.content.Content.{Content}
use Rattle.nys_stmt.specs.declared.statement.Body.{Body}
use Rattle.nys_stmt.specs.declared.statement.Statement.{Statement}
use Rattle.nys_rules.specs.Forged.{Entry, HasMade, with_made}
use Rattle.nys_rules.specs.Scope.{olympus}
use Rattle.nys_rules.specs.Sending.{said_in}
use Rattle.nys_rules.specs.View.{length_of, View}
use Rattle.nys_laws.proofs.LedgerLemmas.{made_before, made_cases}
use Rattle.nys_laws.proofs.OwnLemmas.{only_one}
use Rattle.nys_progress.specs.Statements.{deliver, frozen, inherit, report}

-- no statement among these tells the Olympus of the epoch
pub record TellsNothing (e : ℕ) (made : List Statement) : Type 0 where
  pub reports : (h slot : ℕ) (content : Content) → Contains made (said_in e (report h slot content)) → ⊥
  pub frozen : (h slot : ℕ) → Contains made (said_in e (frozen h slot)) → ⊥

-- party g told nothing of the epoch
pub record ToldNothing (ledger : List Entry) (g e : ℕ) : Type 0 where
  pub reports : (h slot : ℕ) (content : Content) → HasMade ledger g (said_in e (report h slot content)) → ⊥
  pub frozen : (h slot : ℕ) → HasMade ledger g (said_in e (frozen h slot)) → ⊥

-- a slot of h has this content in the log, or is the one behind it and the guard voted for the content
abbrev pub Stands : List Entry → (g e h : ℕ) → List Content → (slot : ℕ) → Content → Type 0
Stands ledger g e h log slot content =
    (slice_get log slot ≡ Some content)
    ⊎ ((slot ≡ length log) × HasMade ledger g (said_in e (deliver h slot content)))

-- what the guard told of the epoch is what its logs and votes are
pub record ToldAll (ledger : List Entry) (g e : ℕ) (logs : ℕ → List Content) (voted_to : ℕ → ℕ) : Type 0 where
  pub reports : (h slot : ℕ) (content : Content) → HasMade ledger g (said_in e (report h slot content))
      → Stands ledger g e h (logs h) slot content
  pub frozen : (h slot : ℕ) → HasMade ledger g (said_in e (frozen h slot)) → slot ≡ voted_to h

-- the votes of the guard go no further than the base and the log, or one slot further where it voted for that
pub data VotedTo (ledger : List Entry) (g e h base len to : ℕ) : Type 0 where
  Base : to ≤ base → VotedTo ledger g e h base len to
  Log : to ≤ len → VotedTo ledger g e h base len to
  Vote : to ≡ len + 1 → (content : Content) → HasMade ledger g (said_in e (deliver h len content))
      → VotedTo ledger g e h base len to

-- the log has at most 1,024 entries, or the Olympus told one at least as far
pub data HasRoom (ledger : List Entry) (h len : ℕ) : Type 0 where
  Within : len ≤ 1024 → HasRoom ledger h len
  Told : (e slot : ℕ) (content : Content) → len ≤ slot + 1 → HasMade ledger olympus (said_in e (inherit h slot content))
      → HasRoom ledger h len

-- all of it
pub record KeepsTold (g : ℕ) (ledger : List Entry) (v : View) : Type 0 where
  pub quiet : v.wedged ≡ false → ToldNothing ledger g v.epoch
  pub told : v.wedged ≡ true → ToldAll ledger g v.epoch v.logs v.voted_to
  pub voted : (h : ℕ) → VotedTo ledger g v.epoch h (v.base h) (length_of v h) (v.voted_to h)
  pub room : (h : ℕ) → HasRoom ledger h (length_of v h)

-- the votes where more was made
pub voted_more : (party : ℕ) (made : List Statement) (ledger : List Entry) (g e h base len to : ℕ)
    → VotedTo ledger g e h base len to → VotedTo (with_made party made ledger) g e h base len to
voted_more party made ledger g e h base len to (Base le) = Base le
voted_more party made ledger g e h base len to (Log le) = Log le
voted_more party made ledger g e h base len to (Vote is content has) =
    Vote is content (made_before party made ledger g (said_in e (deliver h len content)) has)

-- the votes where the log has one entry more
pub voted_longer : (ledger : List Entry) (g e h base len to : ℕ)
    → VotedTo ledger g e h base len to → VotedTo ledger g e h base (len + 1) to
voted_longer ledger g e h base len to (Base le) = Base le
voted_longer ledger g e h base len to (Log le) = Log (omega (arith, le))
voted_longer ledger g e h base len to (Vote is content has) = Log (omega (arith, is))

-- the room where more was made
pub room_more : (party : ℕ) (made : List Statement) (ledger : List Entry) (h len : ℕ)
    → HasRoom ledger h len → HasRoom (with_made party made ledger) h len
room_more party made ledger h len (Within le) = Within le
room_more party made ledger h len (Told e slot content le has) =
    Told e slot content le (made_before party made ledger olympus (said_in e (inherit h slot content)) has)

-- nothing was told still
pub nothing_more : (made : List Statement) (ledger : List Entry) (g e : ℕ)
    → TellsNothing e made → ToldNothing ledger g e → ToldNothing (with_made g made ledger) g e
nothing_more made ledger g e none k = record {
  reports = λ h slot content has. elim (made_cases g made ledger g (said_in e (report h slot content)) has) [
    | inl old ↦ k.reports h slot content old
    | inr new ↦ none.reports h slot content new.1
  ];
  frozen = λ h slot has. elim (made_cases g made ledger g (said_in e (frozen h slot)) has) [
    | inl old ↦ k.frozen h slot old
    | inr new ↦ none.frozen h slot new.1
  ];
}

-- what was told stands where more was made that tells nothing
pub told_more : (made : List Statement) (ledger : List Entry) (g e : ℕ) (logs : ℕ → List Content) (voted_to : ℕ → ℕ)
    → TellsNothing e made → ToldAll ledger g e logs voted_to → ToldAll (with_made g made ledger) g e logs voted_to
told_more made ledger g e logs voted_to none k = record {
  reports = λ h slot content has. elim (made_cases g made ledger g (said_in e (report h slot content)) has) [
    | inl old ↦ elim (k.reports h slot content old) [
      | inl entry ↦ inl entry
      | inr vote ↦ inr (vote.0, made_before g made ledger g (said_in e (deliver h slot content)) vote.1)
    ]
    | inr new ↦ absurd (none.reports h slot content new.1)
  ];
  frozen = λ h slot has. elim (made_cases g made ledger g (said_in e (frozen h slot)) has) [
    | inl old ↦ k.frozen h slot old
    | inr new ↦ absurd (none.frozen h slot new.1)
  ];
}

-- nothing tells nothing
pub none_tell : (e : ℕ) → TellsNothing e []
none_tell e = record {
  reports = λ h slot content among. omega (arith, among.1);
  frozen = λ h slot among. omega (arith, among.1);
}

-- a statement of another kind tells nothing
pub one_tells : (e : ℕ) (said : Body) → ((h slot : ℕ) (content : Content) → said ≡ report h slot content → ⊥)
    → ((h slot : ℕ) → said ≡ frozen h slot → ⊥) → TellsNothing e (said_in e said ∷ [])
one_tells e said other cold = record {
  reports = λ h slot content among. other h slot content
      (ap (λ (s : Statement). s.body) (only_one (said_in e said) (said_in e (report h slot content)) among));
  frozen = λ h slot among. cold h slot
      (ap (λ (s : Statement). s.body) (only_one (said_in e said) (said_in e (frozen h slot)) among));
}

-- what another party makes
pub beside_told : (party : ℕ) (made : List Statement) (g : ℕ) (ledger : List Entry) (v : View)
    → party ≢ g → KeepsTold g ledger v → KeepsTold g (with_made party made ledger) v
beside_told party made g ledger v ne k = record {
  quiet = λ awake. record {
    reports = λ h slot content has. (k.quiet awake).reports h slot content (before (said_in v.epoch (report h slot content)) has);
    frozen = λ h slot has. (k.quiet awake).frozen h slot (before (said_in v.epoch (frozen h slot)) has);
  };
  told = λ ended. record {
    reports = λ h slot content has. elim ((k.told ended).reports h slot content (before (said_in v.epoch (report h slot content)) has)) [
      | inl entry ↦ inl entry
      | inr vote ↦ inr (vote.0, made_before party made ledger g (said_in v.epoch (deliver h slot content)) vote.1)
    ];
    frozen = λ h slot has. (k.told ended).frozen h slot (before (said_in v.epoch (frozen h slot)) has);
  };
  voted = λ h. voted_more party made ledger g v.epoch h (v.base h) (length_of v h) (v.voted_to h) (k.voted h);
  room = λ h. room_more party made ledger h (length_of v h) (k.room h);
}
  where
    before : (s : Statement) → HasMade (with_made party made ledger) g s → HasMade ledger g s
    before s has = elim (made_cases party made ledger g s has) [ inl old ↦ old | inr new ↦ absurd (ne new.0) ]

-- what a node does that isn't wedged, in its epoch: it tells nothing, and its votes and logs go on so
pub record GoesOnAwake (g : ℕ) (ledger : List Entry) (v next : View) (made : List Statement) : Type 0 where
  pub awake : v.wedged ≡ false
  pub still : next.wedged ≡ v.wedged
  pub epoch : next.epoch ≡ v.epoch
  pub nothing_told : TellsNothing v.epoch made
  pub voted : (h : ℕ) → VotedTo (with_made g made ledger) g next.epoch h (next.base h) (length_of next h) (next.voted_to h)
  pub room : (h : ℕ) → HasRoom (with_made g made ledger) h (length_of next h)

-- then it keeps all
pub awake_told : (g : ℕ) (ledger : List Entry) (v next : View) (made : List Statement)
    → GoesOnAwake g ledger v next made → KeepsTold g ledger v → KeepsTold g (with_made g made ledger) next
awake_told g ledger v next made on k = record {
  quiet = λ awake. subst (ToldNothing (with_made g made ledger) g) (sym on.epoch)
      (nothing_more made ledger g v.epoch on.nothing_told (k.quiet on.awake));
  told = λ ended. absurd (let both = sym ended ∙ (on.still ∙ on.awake) in cc);
  voted = on.voted;
  room = on.room;
}
