-- What notes tell of the Olympus, once one more is there or the Olympus did something.
use Rattle.std.proofs.Common.{◌≡◌, ◌≢◌, ℕ, ◌+◌, ◌≤◌, ◌⊎◌, ◌↔◌, true, false, List, [], ◌∷◌, ◌++◌, length, refl, ap, sym, subst, ◌∙◌, inl, inr, arith}
use Rattle.std.proofs.lemmas.Bool.{cases_eq}
use Rattle.std.proofs.lemmas.List.Elements.{Contains-append_left, Contains-push, Contains-push_cases}
use Rattle.nys_agreement.proofs.TableLemmas.{put_here, put_there}
use Rattle.nys_bytes.specs.declared.content.Content.{Content}
use Rattle.nys_rules.specs.declared.decision.Decision.TheVariants as decide
use Rattle.nys_rules.specs.declared.decision.Retired.TheVariants as retire
use Rattle.nys_rules.specs.declared.notice.Note.{Note}
use Rattle.nys_rules.specs.declared.notice.NoteKind.{NoteKind}
use Rattle.nys_rules.specs.declared.notice.NoteKind.TheVariants as note
use Rattle.nys_rules.specs.Olympus.{in_next_epoch, OlympusView}
use Rattle.nys_source.specs.Tables.{put}
use Rattle.nys_told.specs.Noted.{IsNoted, IsRetired}
use Rattle.nys_told.specs.Told.{IsGreatestDecided}

-- what the Olympus keeps of decided logs and of hosts that are given up is the same
pub record SameLogs (o p : OlympusView) : Type 0 where
  pub base : p.base ≡ o.base
  pub decided : p.decided ≡ o.decided
  pub decided_now : p.decided_now ≡ o.decided_now
  pub retired : p.retired ≡ o.retired

-- as it is
pub same_logs : (o : OlympusView) → SameLogs o o
same_logs o = record { base = refl; decided = refl; decided_now = refl; retired = refl }

-- what was the same twice
pub same_twice : (o p q : OlympusView) → SameLogs o p → SameLogs p q → SameLogs o q
same_twice o p q one other = record {
  base = other.base ∙ one.base;
  decided = other.decided ∙ one.decided;
  decided_now = other.decided_now ∙ one.decided_now;
  retired = other.retired ∙ one.retired;
}

-- the notes tell what the Olympus keeps, whose logs grow at decisions alone
pub record IsToldBy (notes : List Note) (o : OlympusView) : Type 0 where
  pub decided : (h : ℕ) → IsGreatestDecided notes h (length (o.decided h))
  pub retired : (h : ℕ) → (o.retired h ≡ true) ↔ IsRetired notes h
  pub still : (h : ℕ) → o.decided_now h ≡ false → length (o.decided h) ≡ o.base h

-- the note of an event
abbrev pub noted_in : ℕ → NoteKind → Note
noted_in n kind = record { event = n; kind = kind }

-- what was noted is noted still
noted_before : (notes : List Note) (n : ℕ) (kind told : NoteKind) → IsNoted notes told
    → IsNoted (notes ++ noted_in n kind ∷ []) told
noted_before notes n kind told is = (is.0, Contains-append_left notes (noted_in n kind ∷ []) _ is.1)

-- and what is noted now
noted_now : (notes : List Note) (n : ℕ) (kind : NoteKind) → IsNoted (notes ++ noted_in n kind ∷ []) kind
noted_now notes n kind = (n, Contains-push notes (noted_in n kind))

-- and nothing else
noted_cases : (notes : List Note) (n : ℕ) (kind told : NoteKind) → IsNoted (notes ++ noted_in n kind ∷ []) told
    → IsNoted notes told ⊎ (kind ≡ told)
noted_cases notes n kind told is = elim (Contains-push_cases notes (noted_in n kind) _ is.1) [
  | inl old ↦ inl (is.0, old)
  | inr new ↦ inr (ap (λ (x : Note). x.kind) new)
]

-- this tells of no decided log and of no host that is given up
pub record IsOther (kind : NoteKind) : Type 0 where
  pub decided : (h len : ℕ) → kind ≢ note.Decide h (decide.Decided len)
  pub retired : (h : ℕ) → kind ≢ note.Retire h retire.Done

-- greatest lengths stay where a note tells of no decided log of the host
last_more : (notes : List Note) (n h len : ℕ) (kind : NoteKind) → ((most : ℕ) → kind ≢ note.Decide h (decide.Decided most))
    → IsGreatestDecided notes h len → IsGreatestDecided (notes ++ noted_in n kind ∷ []) h len
last_more notes n h len kind other last = record {
  most = λ most is. elim (noted_cases notes n kind (note.Decide h (decide.Decided most)) is) [
    | inl old ↦ last.most most old
    | inr new ↦ absurd (other most new)
  ];
  reached = elim last.reached [
    | inl is ↦ inl (noted_before notes n kind (note.Decide h (decide.Decided len)) is)
    | inr none ↦ inr none
  ];
}

-- who is given up stays where a note tells of nobody
retired_more : (notes : List Note) (n h : ℕ) (kind : NoteKind) (o : OlympusView) → kind ≢ note.Retire h retire.Done
    → (o.retired h ≡ true) ↔ IsRetired notes h → (o.retired h ≡ true) ↔ IsRetired (notes ++ noted_in n kind ∷ []) h
retired_more notes n h kind o other told = (
  λ is. noted_before notes n kind (note.Retire h retire.Done) (told.0 is),
  λ is. elim (noted_cases notes n kind (note.Retire h retire.Done) is) [
    | inl old ↦ told.1 old
    | inr new ↦ absurd (other new)
  ],
)

-- notes that tell of no decided log and of no host that is given up change nothing
pub told_other : (notes : List Note) (n : ℕ) (kind : NoteKind) (o : OlympusView) → IsOther kind → IsToldBy notes o
    → IsToldBy (notes ++ noted_in n kind ∷ []) o
told_other notes n kind o other told = record {
  decided = λ h. last_more notes n h (length (o.decided h)) kind (other.decided h) (told.decided h);
  retired = λ h. retired_more notes n h kind o (other.retired h) (told.retired h);
  still = told.still;
}

-- nor does an Olympus that keeps the same
pub told_same : (notes : List Note) (o p : OlympusView) → SameLogs o p → IsToldBy notes o → IsToldBy notes p
told_same notes o p same told = record {
  decided = λ h. subst (λ (d : ℕ → List Content). IsGreatestDecided notes h (length (d h))) (sym same.decided) (told.decided h);
  retired = λ h. subst (λ r. (r h ≡ true) ↔ IsRetired notes h) (sym same.retired) (told.retired h);
  still = λ h is.
      ap (λ (d : ℕ → List Content). length (d h)) same.decided
      ∙ told.still h (sym (ap (λ d. d h) same.decided_now) ∙ is) ∙ ap (λ b. b h) (sym same.base);
}

-- the next epoch begins with what is decided
pub told_next : (notes : List Note) (o : OlympusView) → IsToldBy notes o → IsToldBy notes (in_next_epoch o)
told_next notes o told = record {
  decided = told.decided;
  retired = told.retired;
  still = λ h is. refl;
}

-- what is decided now is at least as long as before, and the note tells it
last_decided : (notes : List Note) (n h before len : ℕ) → before ≤ len → IsGreatestDecided notes h before
    → IsGreatestDecided (notes ++ noted_in n (note.Decide h (decide.Decided len)) ∷ []) h len
last_decided notes n h before len grows last = record {
  most = λ most is. elim (noted_cases notes n (note.Decide h (decide.Decided len)) (note.Decide h (decide.Decided most)) is) [
    | inl old ↦ let le = last.most most old in omega (arith, le, grows)
    | inr new ↦ let same : len ≡ most = cc in omega (arith, same)
  ];
  reached = inl (noted_now notes n (note.Decide h (decide.Decided len)));
}

-- a log is decided
pub told_decided : (notes : List Note) (n h len : ℕ) (more : List Content) (o p : OlympusView)
    → p.base ≡ o.base → p.decided ≡ put o.decided h (o.decided h ++ more) → p.decided_now ≡ put o.decided_now h true
    → p.retired ≡ o.retired → length (o.decided h) + length more ≡ len → length (o.decided h ++ more) ≡ len
    → IsToldBy notes o → IsToldBy (notes ++ noted_in n (note.Decide h (decide.Decided len)) ∷ []) p
told_decided notes n h len more o p base decided now retired sum long told = record {
  decided = λ x. elim (cases_eq x h) [
    | inl same ↦
        subst (λ (y : ℕ). IsGreatestDecided (notes ++ noted_in n (note.Decide h (decide.Decided len)) ∷ []) y (length (p.decided y))) (sym same)
        (subst (IsGreatestDecided (notes ++ noted_in n (note.Decide h (decide.Decided len)) ∷ []) h)
        (sym (ap (λ (d : ℕ → List Content). length (d h)) decided ∙ ap length (put_here o.decided h (o.decided h ++ more)) ∙ long))
        (last_decided notes n h (length (o.decided h)) len (omega (arith, sum)) (told.decided h)))
    | inr other ↦
        subst (IsGreatestDecided (notes ++ noted_in n (note.Decide h (decide.Decided len)) ∷ []) x)
        (sym (ap (λ (d : ℕ → List Content). length (d x)) decided ∙ ap length (put_there o.decided h (o.decided h ++ more) x other)))
        (last_more notes n x (length (o.decided x)) (note.Decide h (decide.Decided len))
        (λ most e. let same : h ≡ x = cc in other (sym same)) (told.decided x))
  ];
  retired = λ x.
      subst (λ r. (r x ≡ true) ↔ IsRetired (notes ++ noted_in n (note.Decide h (decide.Decided len)) ∷ []) x) (sym retired)
      (retired_more notes n x (note.Decide h (decide.Decided len)) o (λ e. absurd (cc)) (told.retired x));
  still = λ x is. elim (cases_eq x h) [
    | inl same ↦ absurd (
        let on = put_here o.decided_now h true in
        let off = ap (λ d. d h) (sym now) ∙ subst (λ y. p.decided_now y ≡ false) same is in
        cc)
    | inr other ↦
        ap (λ (d : ℕ → List Content). length (d x)) decided ∙ ap length (put_there o.decided h (o.decided h ++ more) x other)
        ∙ told.still x (sym (put_there o.decided_now h true x other) ∙ ap (λ d. d x) (sym now) ∙ is) ∙ ap (λ b. b x) (sym base)
  ];
}

-- a host is given up
pub told_retired : (notes : List Note) (n h : ℕ) (o p : OlympusView) → p.base ≡ o.base → p.decided ≡ o.decided
    → p.decided_now ≡ o.decided_now → p.retired ≡ put o.retired h true → IsToldBy notes o
    → IsToldBy (notes ++ noted_in n (note.Retire h retire.Done) ∷ []) p
told_retired notes n h o p base decided now retired told = record {
  decided = λ x.
      subst (λ (d : ℕ → List Content). IsGreatestDecided (notes ++ noted_in n (note.Retire h retire.Done) ∷ []) x (length (d x))) (sym decided)
      (last_more notes n x (length (o.decided x)) (note.Retire h retire.Done) (λ most e. absurd (cc)) (told.decided x));
  retired = λ x. elim (cases_eq x h) [
    | inl same ↦ (
      λ is. subst (λ y. IsRetired (notes ++ noted_in n (note.Retire h retire.Done) ∷ []) y) (sym same)
          (noted_now notes n (note.Retire h retire.Done)),
      λ is. ap (λ r. r x) retired ∙ ap (put o.retired h true) same ∙ put_here o.retired h true,
    )
    | inr other ↦
        subst (λ b. (b ≡ true) ↔ IsRetired (notes ++ noted_in n (note.Retire h retire.Done) ∷ []) x)
        (sym (ap (λ r. r x) retired ∙ put_there o.retired h true x other))
        (retired_more notes n x (note.Retire h retire.Done) o (λ e. let same : h ≡ x = cc in other (sym same)) (told.retired x))
  ];
  still = λ x is.
      ap (λ (d : ℕ → List Content). length (d x)) decided
      ∙ told.still x (sym (ap (λ d. d x) now) ∙ is) ∙ ap (λ b. b x) (sym base);
}
