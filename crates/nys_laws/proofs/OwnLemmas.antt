-- What a node keeps as its own stays what the ledger has of it, whatever it says or logs.
use Rattle.std.proofs.Common.{◌≡◌, ◌≢◌, ℕ, zero, suc, ◌<◌, ◌⊎◌, List, [], ◌∷◌, Some, None, refl, ap, sym, subst, ◌∙◌, inl, inr, arith}
use Rattle.std.specs.Prelude.{All, Contains, Option}
use Rattle.std.proofs.lemmas.List.Elements.{All-contains}
use Rattle.nys_bytes.specs.declared.content.Content.{Content}
use Rattle.nys_stmt.specs.declared.statement.Statement.{Statement}
use Rattle.nys_rules.specs.Forged.{Entry, HasMade, with_made}
use Rattle.nys_rules.specs.Sending.{said_in}
use Rattle.nys_laws.specs.Own.{AreOwn, body_at, HasSaid, Stage}
use Rattle.nys_laws.specs.Own.Stage.{Offered, Ordered, Delivered}
use Rattle.nys_laws.proofs.LedgerLemmas.{made_before, made_cases, made_now, none_made}

-- a statement of the epoch that brings no content into a slot
pub record IsAside (epoch : ℕ) (s : Statement) : Type 0 where
  pub epoch_is : s.epoch ≡ epoch
  pub other : (stage : Stage) (e h slot : ℕ) (content : Content)
      → s ≡ said_in e (body_at stage h slot content) → ⊥

-- what another party makes
pub own_beside : (party : ℕ) (made : List Statement) (ledger : List Entry) (g e : ℕ) (n : ℕ → ℕ) (own : Stage → ℕ → Option Content)
    → party ≢ g → AreOwn ledger g e n own → AreOwn (with_made party made ledger) g e n own
own_beside party made ledger g e n own ne k = record {
  past = λ s has. k.past s (before s has);
  kept = λ stage h content is. made_before party made ledger g (said_in e (body_at stage h (n h) content)) (k.kept stage h content is);
  said = λ stage h slot content has. k.said stage h slot content (before (said_in e (body_at stage h slot content)) has);
  once = λ stage e h slot content other a b.
      k.once stage e h slot content other
      (before (said_in e (body_at stage h slot content)) a) (before (said_in e (body_at stage h slot other)) b);
}
  where
    before : (s : Statement) → HasMade (with_made party made ledger) g s → HasMade ledger g s
    before s has = elim (made_cases party made ledger g s has) [ inl old ↦ old | inr new ↦ absurd (ne new.0) ]

-- statements that bring no content into a slot, where what is kept as its own stays the same
pub own_aside : (made : List Statement) (ledger : List Entry) (g e : ℕ) (n : ℕ → ℕ) (own next : Stage → ℕ → Option Content)
    → All (IsAside e) made → ((stage : Stage) (h : ℕ) → next stage h ≡ own stage h)
    → AreOwn ledger g e n own → AreOwn (with_made g made ledger) g e n next
own_aside made ledger g e n own next aside same k = record {
  past = λ s has. elim (made_cases g made ledger g s has) [
    | inl old ↦ k.past s old
    | inr new ↦ let is = (All-contains (IsAside e) made s aside new.1).epoch_is in omega (arith, is)
  ];
  kept = λ stage h content is.
      made_before g made ledger g (said_in e (body_at stage h (n h) content)) (k.kept stage h content (sym (same stage h) ∙ is));
  said = λ stage h slot content has. elim (k.said stage h slot content (before stage e h slot content has)) [
    | inl earlier ↦ inl earlier
    | inr last ↦ inr (last.0, same stage h ∙ last.1)
  ];
  once = λ stage e h slot content other a b.
      k.once stage e h slot content other (before stage e h slot content a) (before stage e h slot other b);
}
  where
    before : (stage : Stage) (e h slot : ℕ) (content : Content)
        → HasSaid (with_made g made ledger) g stage e h slot content
        → HasSaid ledger g stage e h slot content
    before stage d h slot content has = elim (made_cases g made ledger g (said_in d (body_at stage h slot content)) has) [
      | inl old ↦ old
      | inr new ↦ absurd ((All-contains (IsAside e) made (said_in d (body_at stage h slot content)) aside new.1).other stage d h slot content refl)
    ]

-- the same where nothing is made
pub own_same : (ledger : List Entry) (g e : ℕ) (n : ℕ → ℕ) (own next : Stage → ℕ → Option Content)
    → ((stage : Stage) (h : ℕ) → next stage h ≡ own stage h) → AreOwn ledger g e n own
    → AreOwn ledger g e n next
own_same ledger g e n own next same k = record {
  past = k.past;
  kept = λ stage h content is. k.kept stage h content (sym (same stage h) ∙ is);
  said = λ stage h slot content has. elim (k.said stage h slot content has) [
    | inl earlier ↦ inl earlier
    | inr last ↦ inr (last.0, same stage h ∙ last.1)
  ];
  once = k.once;
}

-- a log may grow where its desk is emptied
abbrev pub GrewOr : (ℕ → ℕ) → (Stage → ℕ → Option Content) → (ℕ → ℕ) → (Stage → ℕ → Option Content)
    → ℕ → Type 0
GrewOr n own m next h =
    ((n h < m h) × ((stage : Stage) → next stage h ≡ None))
    ⊎ ((m h ≡ n h) × ((stage : Stage) → next stage h ≡ own stage h))

-- logs that grow
pub own_grows : (ledger : List Entry) (g e : ℕ) (n : ℕ → ℕ) (own : Stage → ℕ → Option Content)
    (m : ℕ → ℕ) (next : Stage → ℕ → Option Content)
    → ((h : ℕ) → GrewOr n own m next h)
    → AreOwn ledger g e n own → AreOwn ledger g e m next
own_grows ledger g e n own m next grew k = record {
  past = k.past;
  kept = λ stage h content is. elim (grew h) [
    | inl more ↦ absurd (let none = sym is ∙ more.1 stage in cc)
    | inr same ↦
        subst (λ slot. HasSaid ledger g stage e h slot content) (sym same.0) (k.kept stage h content (sym (same.1 stage) ∙ is))
  ];
  said = λ stage h slot content has. elim (grew h) [
    | inl more ↦ elim (k.said stage h slot content has) [
      | inl earlier ↦ inl (omega (arith, earlier, more.0))
      | inr last ↦ inl (omega (arith, last.0, more.0))
    ]
    | inr same ↦ elim (k.said stage h slot content has) [
      | inl earlier ↦ inl (omega (arith, earlier, same.0))
      | inr last ↦ inr (last.0 ∙ sym same.0, same.1 stage ∙ last.1)
    ]
  ];
  once = k.once;
}

-- an epoch that begins with empty desks
pub own_enters : (ledger : List Entry) (g e : ℕ) (n : ℕ → ℕ) (own : Stage → ℕ → Option Content)
    (later : ℕ) (m : ℕ → ℕ) (next : Stage → ℕ → Option Content)
    → e < later → ((stage : Stage) (h : ℕ) → next stage h ≡ None)
    → AreOwn ledger g e n own → AreOwn ledger g later m next
own_enters ledger g e n own later m next more empty k = record {
  past = λ s has. let was = k.past s has in omega (arith, was, more);
  kept = λ stage h content is. absurd (let none = sym is ∙ empty stage h in cc);
  said = λ stage h slot content has.
      absurd (let was = k.past (said_in later (body_at stage h slot content)) has in omega (arith, was, more));
  once = k.once;
}

-- before the first event nothing is kept or said
pub own_first : (g : ℕ) (n : ℕ → ℕ) (own : Stage → ℕ → Option Content)
    → ((stage : Stage) (h : ℕ) → own stage h ≡ None) → AreOwn [] g 0 n own
own_first g n own empty = record {
  past = λ s has. absurd (none_made g s has);
  kept = λ stage h content is. absurd (let none = sym is ∙ empty stage h in cc);
  said = λ stage h slot content has. absurd (none_made g (said_in 0 (body_at stage h slot content)) has);
  once = λ stage e h slot content other a b. absurd (none_made g (said_in e (body_at stage h slot content)) a);
}

-- two such statements are one only where all that they name is
same_words : (a b : Stage) (d e h k s t : ℕ) (x y : Content)
    → said_in d (body_at a h s x) ≡ said_in e (body_at b k t y)
    → (a ≡ b) × (d ≡ e) × (h ≡ k) × (s ≡ t) × (x ≡ y)
same_words Offered Offered d e h k s t x y is =
    let at = ap (λ (z : Statement). z.body) is in (refl, ap (λ (z : Statement). z.epoch) is, cc, cc, cc)
same_words Offered Ordered d e h k s t x y is =
    absurd (let at = ap (λ (z : Statement). z.body) is in cc)
same_words Offered Delivered d e h k s t x y is =
    absurd (let at = ap (λ (z : Statement). z.body) is in cc)
same_words Ordered Offered d e h k s t x y is =
    absurd (let at = ap (λ (z : Statement). z.body) is in cc)
same_words Ordered Ordered d e h k s t x y is =
    let at = ap (λ (z : Statement). z.body) is in (refl, ap (λ (z : Statement). z.epoch) is, cc, cc, cc)
same_words Ordered Delivered d e h k s t x y is =
    absurd (let at = ap (λ (z : Statement). z.body) is in cc)
same_words Delivered Offered d e h k s t x y is =
    absurd (let at = ap (λ (z : Statement). z.body) is in cc)
same_words Delivered Ordered d e h k s t x y is =
    absurd (let at = ap (λ (z : Statement). z.body) is in cc)
same_words Delivered Delivered d e h k s t x y is =
    let at = ap (λ (z : Statement). z.body) is in (refl, ap (λ (z : Statement). z.epoch) is, cc, cc, cc)

-- the one element of a list
pub only_one : {A : Type 0} (x y : A) → Contains (x ∷ []) y → x ≡ y
only_one x y (zero, lt, at) = at
only_one x y (suc n, lt, at) = absurd (omega (arith, lt))

-- a content that is said for the open slot of a host at a stage for which nothing is kept, and kept then
pub record IsSaying (n : ℕ → ℕ) (own next : Stage → ℕ → Option Content) (stage : Stage) (h : ℕ) (content : Content) : Type 0 where
  pub nothing_before : own stage h ≡ None
  pub kept_now : next stage h ≡ Some content
  pub others : (s : Stage) (x : ℕ) → (next s x ≡ own s x) ⊎ ((s ≡ stage) × (x ≡ h))

-- nothing was said there
pub unsaid : (ledger : List Entry) (g e : ℕ) (n : ℕ → ℕ) (own : Stage → ℕ → Option Content)
    (stage : Stage) (h : ℕ) (content : Content)
    → AreOwn ledger g e n own → own stage h ≡ None → HasSaid ledger g stage e h (n h) content → ⊥
unsaid ledger g e n own stage h content k none has = elim (k.said stage h (n h) content has) [
  | inl earlier ↦ omega (arith, earlier)
  | inr last ↦ let both = sym none ∙ last.1 in cc
]

-- what is said is kept, and said once
pub own_says : (ledger : List Entry) (g e : ℕ) (n : ℕ → ℕ) (own next : Stage → ℕ → Option Content)
    (stage : Stage) (h : ℕ) (content : Content)
    → IsSaying n own next stage h content → AreOwn ledger g e n own
    → AreOwn (with_made g (said_in e (body_at stage h (n h) content) ∷ []) ledger) g e n next
own_says ledger g e n own next stage h content says k = record {
  past = λ s has. elim (now_or_before s has) [
    | inl old ↦ k.past s old
    | inr new ↦ let at = ap (λ x. x.epoch) new in omega (arith, at)
  ];
  kept = λ s x c is. elim (says.others s x) [
    | inl same ↦ made_before g (new_one ∷ []) ledger g (said_in e (body_at s x (n x) c)) (k.kept s x c (sym same ∙ is))
    | inr this ↦ kept_now s x c is this.0 this.1
  ];
  said = λ s x slot c has. elim (now_or_before (said_in e (body_at s x slot c)) has) [
    | inl old ↦ elim (k.said s x slot c old) [
      | inl earlier ↦ inl earlier
      | inr last ↦ inr (
        last.0,
        elim (says.others s x) [
          | inl same ↦ same ∙ last.1
          | inr this ↦ absurd (was_none s x c this.0 this.1 last.1)
        ],
      )
    ]
    | inr new ↦
        let same = same_words stage s e e h x (n h) slot content c new in
        inr (sym same.3 ∙ ap n same.2, ap (λ y. next y x) (sym same.0) ∙ ap (next stage) (sym same.2) ∙ says.kept_now ∙ ap (λ z. Some z) same.4)
  ];
  once = λ s d x slot a b one two. by_age s d x slot a b
      (now_or_before (said_in d (body_at s x slot a)) one) (now_or_before (said_in d (body_at s x slot b)) two);
}
  where
    new_one : Statement
    new_one = said_in e (body_at stage h (n h) content)

    now_or_before : (s : Statement) → HasMade (with_made g (new_one ∷ []) ledger) g s
        → HasMade ledger g s ⊎ (new_one ≡ s)
    now_or_before s has = elim (made_cases g (new_one ∷ []) ledger g s has) [
      | inl old ↦ inl old
      | inr new ↦ inr (only_one new_one s new.1)
    ]

    kept_now : (s : Stage) (x : ℕ) (c : Content) → next s x ≡ Some c → s ≡ stage → x ≡ h
        → HasMade (with_made g (new_one ∷ []) ledger) g (said_in e (body_at s x (n x) c))
    kept_now s x c is same at =
        let both = sym says.kept_now ∙ ap (next stage) (sym at) ∙ ap (λ y. next y x) (sym same) ∙ is in
        let one : content ≡ c = cc in
        subst (λ y. HasMade (with_made g (new_one ∷ []) ledger) g (said_in e (body_at y x (n x) c))) (sym same)
        (subst (λ y. HasMade (with_made g (new_one ∷ []) ledger) g (said_in e (body_at stage y (n y) c))) (sym at)
        (subst (λ y. HasMade (with_made g (new_one ∷ []) ledger) g (said_in e (body_at stage h (n h) y))) one (made_now g ledger new_one)))

    was_none : (s : Stage) (x : ℕ) (c : Content) → s ≡ stage → x ≡ h → own s x ≡ Some c → ⊥
    was_none s x c same at is =
        let both = sym says.nothing_before ∙ ap (own stage) (sym at) ∙ ap (λ y. own y x) (sym same) ∙ is in cc

    not_before : (s : Stage) (d x slot : ℕ) (a b : Content)
        → new_one ≡ said_in d (body_at s x slot a)
        → HasSaid ledger g s d x slot b → ⊥
    not_before s d x slot a b new old =
        let same = same_words stage s e d h x (n h) slot content a new in
        unsaid ledger g e n own stage h b k says.nothing_before
        (subst (λ y. HasSaid ledger g y e h (n h) b) (sym same.0)
        (subst (λ y. HasSaid ledger g s y h (n h) b) (sym same.1)
        (subst (λ y. HasSaid ledger g s d y (n h) b) (sym same.2)
        (subst (λ y. HasSaid ledger g s d x y b) (sym same.3) old))))

    by_age : (s : Stage) (d x slot : ℕ) (a b : Content)
        → HasSaid ledger g s d x slot a ⊎ (new_one ≡ said_in d (body_at s x slot a))
        → HasSaid ledger g s d x slot b ⊎ (new_one ≡ said_in d (body_at s x slot b)) → a ≡ b
    by_age s d x slot a b (inl p) (inl q) = k.once s d x slot a b p q
    by_age s d x slot a b (inl p) (inr q) = absurd (not_before s d x slot b a q p)
    by_age s d x slot a b (inr p) (inl q) = absurd (not_before s d x slot a b p q)
    by_age s d x slot a b (inr p) (inr q) =
        sym (same_words stage s e d h x (n h) slot content a p).4 ∙ (same_words stage s e d h x (n h) slot content b q).4
