-- A log that takes one content, in a world and in the machine.
use Rattle.std.proofs.Common.{◌≡◌, ◌≢◌, ℕ, zero, suc, ◌+◌, ◌<◌, ◌≤◌, ◌==◌, Bool, true, false, not, ℤ, List, [], ◌∷◌, ◌++◌, length, drop, map, Some, refl, ap, sym, subst, ◌∙◌, inl, inr, arith, eq-eqb, append-nil, length-append}
use Rattle.std.specs.Prelude.{if◌then◌else◌, nat_lt, slice_get}
use Rattle.std.proofs.lemmas.Bool.{cases_eq, cases_order, ne_eqb}
use Rattle.std.proofs.lemmas.Bool.Decides.{Decides-ltb}
use Rattle.nys_bytes.specs.declared.content.Content.{Content}
use Rattle.nys_bytes.specs.declared.content.Content.TheVariants.{External, Message}
use Rattle.nys_source.specs.Tables.{put, put_at}
use Rattle.nys_source.specs.declared.step.Step.{Step}
use Rattle.nys_agreement.specs.Alone.{step_of}
use Rattle.nys_agreement.specs.Assembly as machine
use Rattle.nys_agreement.specs.Events.{IsCandidate}
use Rattle.nys_agreement.specs.After as machines
use Rattle.nys_agreement.proofs.TableLemmas.{put_case, put_here, put_there}
use Rattle.nys_rules.specs.Forged.{Entry}
use Rattle.nys_rules.specs.Heads.{is_same}
use Rattle.nys_rules.specs.Logging.{left_by, with_entry}
use Rattle.nys_rules.specs.View.{length_of, View}
use Rattle.nys_rules.specs.World.{Setting, with_slot, World}
use Rattle.nys_votes.proofs.ContentLemmas.{decide_payloads}
use Rattle.nys_follows.specs.Follows.{IsNode, IsRunOf, IsTruthful, Part, part_of}
use Rattle.nys_follows.proofs.StageLemmas.{Scene, Stage}

-- nothing stands past the end
pub drop_past : {A : Type 0} (n : ℕ) (xs : List A) → length xs ≤ n → drop n xs ≡ []
drop_past zero [] le = refl
drop_past zero (x ∷ xs) le = absurd (omega arith)
drop_past (suc n) [] le = refl
drop_past (suc n) (x ∷ xs) le = drop_past n xs (omega arith)

-- what follows a list
pub drop_end : {A : Type 0} (n : ℕ) (xs ys : List A) → n ≡ length xs → drop n (xs ++ ys) ≡ ys
drop_end zero [] ys is = refl
drop_end zero (x ∷ xs) ys is = absurd (omega arith)
drop_end (suc n) [] ys is = absurd (omega arith)
drop_end (suc n) (x ∷ xs) ys is = drop_end n xs ys (omega arith)

-- the entry that a log takes is run where the log passes all others, in both
pub slot_run : (runs : World) (m : machine.Assembly) (log : List Content) (h : ℕ) (c : Content)
    → length log ≤ length (m.longest h) → IsRunOf runs.longest runs.run m.longest m.run
    → IsRunOf (with_slot h (length log) (Some c) runs).longest (with_slot h (length log) (Some c) runs).run
    (machines.longest_with m h (log ++ c ∷ [])) (machines.run_with m h (log ++ c ∷ []))
slot_run runs m log h c fits k = by (nat_lt (length log) (runs.longest h)) refl
  where
    more : World
    more = record runs { longest = put runs.longest h (length log + 1); run = runs.run ++ step_of h c ∷ [] }

    by : (b : Bool) → nat_lt (length log) (runs.longest h) ≡ b
        → IsRunOf (if b then runs else more).longest (if b then runs else more).run
        (machines.longest_with m h (log ++ c ∷ [])) (machines.run_with m h (log ++ c ∷ []))
    by true is =
        let lt = (Decides-ltb (length log) (runs.longest h)).0 is in
        let long = k.long h in
        let size = length-append log (c ∷ []) in
        let none = drop_past (length (m.longest h)) (log ++ c ∷ []) (omega arith) in record {
          long = λ x. put_case (λ (z : List Content). length z ≡ runs.longest x) m.longest h
              (m.longest h ++ machines.surplus m h (log ++ c ∷ [])) x
              (λ same. ap (λ (z : List Content). length (m.longest h ++ z)) none ∙ (ap length (append-nil (m.longest h)) ∙ (k.long h ∙ ap runs.longest (sym same))))
              (λ other. k.long x);
          run_is = ap (λ (z : List Content). m.run ++ map (step_of h) z) none ∙ (append-nil m.run ∙ k.run_is);
        }
    by false is =
        let ge = (Decides-ltb (length log) (runs.longest h)).1 in
        let long = k.long h in
        let same_size : length (m.longest h) ≡ length log = at_end (nat_lt (length log) (runs.longest h)) is ge (omega arith) long in
        let one = drop_end (length (m.longest h)) log (c ∷ []) same_size in record {
          long = λ x. put_case (λ (z : List Content). length z ≡ put runs.longest h (length log + 1) x) m.longest h
              (m.longest h ++ machines.surplus m h (log ++ c ∷ [])) x
              (λ same. ap (λ (z : List Content). length (m.longest h ++ z)) one
              ∙ (length-append (m.longest h) (c ∷ [])
              ∙ (ap (λ n. n + 1) same_size ∙ (sym (put_here runs.longest h (length log + 1)) ∙ ap (put runs.longest h (length log + 1)) (sym same)))))
              (λ other. k.long x ∙ sym (put_there runs.longest h (length log + 1) x other));
          run_is = ap (λ (z : List Content). m.run ++ map (step_of h) z) one ∙ ap (λ (z : List Step). z ++ step_of h c ∷ []) k.run_is;
        }
      where
        at_end : (b : Bool) → b ≡ false → (length log < runs.longest h → b ≡ true) → length log ≤ length (m.longest h)
            → length (m.longest h) ≡ runs.longest h → length (m.longest h) ≡ length log
        at_end b off on le is = elim (cases_order (length log) (runs.longest h)) [
          | inl e ↦ omega arith
          | inr (inl lt) ↦ absurd (let t = on lt in cc)
          | inr (inr gt) ↦ absurd (omega arith)
        ]

-- the log of the actor there
grown_there : (m : machine.Assembly) (g h : ℕ) (c : Content) (logs : ℕ → List Content) → ((x : ℕ) → m.log g x ≡ logs x)
    → (x : ℕ) → put_at m.log g h (m.log g h ++ c ∷ []) g x ≡ put logs h (logs h ++ c ∷ []) x
grown_there m g h c logs same x = rw (eq-eqb g g refl) (elim (cases_eq x h) [
  | inl e ↦ rw (eq-eqb x h e) (ap (λ (z : List Content). z ++ c ∷ []) (same h))
  | inr ne ↦ rw (ne_eqb x h ne) (same x)
])

-- the queue of the actor there: the oldest input leaves it in both where it is the one that is taken
waiting_there : (m : machine.Assembly) (g h me : ℕ) (c : Content) (waiting : List (List ℤ)) → me ≡ g → m.waiting g ≡ waiting
    → (g ≡ h → IsCandidate (m.waiting h) c)
    → machines.waiting_with m g h c g ≡ (if me == h then left_by c waiting else waiting)
waiting_there m g h me c waiting is same may = elim (cases_eq g h) [
  | inl e ↦
      let here = ap m.waiting (sym e) ∙ same in
      rw (eq-eqb g h e, eq-eqb me h (is ∙ e))
      (ap (λ y. put m.waiting h (machines.left_by c (m.waiting h)) y) e
      ∙ (put_here m.waiting h (machines.left_by c (m.waiting h))
      ∙ (ap (machines.left_by c) here ∙ leaves c waiting (subst (λ (z : List (List ℤ)). IsCandidate z c) here (may e)))))
  | inr ne ↦ rw (ne_eqb g h ne, ne_eqb me h (λ e. ne (sym is ∙ e))) same
]
  where
    leaves : (c : Content) (waiting : List (List ℤ)) → IsCandidate waiting c
        → machines.left_by c waiting ≡ left_by c waiting
    leaves (External payload) waiting head =
        let one : is_same (slice_get waiting 0) payload ≡ true = rw head ((decide_payloads payload payload).1 refl) in
        rw one refl
    leaves (Message p k payload) waiting head = refl

-- the queue of another
waiting_beside : (m : machine.Assembly) (g h x : ℕ) (c : Content) → x ≢ g
    → machines.waiting_with m g h c x ≡ m.waiting x
waiting_beside m g h x c other = elim (cases_eq g h) [
  | inl e ↦ rw (eq-eqb g h e) (put_there m.waiting h (machines.left_by c (m.waiting h)) x (λ same. other (same ∙ sym e)))
  | inr ne ↦ rw (ne_eqb g h ne) refl
]

-- the logs of another
logs_beside : (m : machine.Assembly) (g h : ℕ) (grown : List Content) (x : ℕ) → x ≢ g
    → put_at m.log g h grown x ≡ m.log x
logs_beside m g h grown x other = rw (ne_eqb x g other) refl

-- the actor's log of h takes a content
pub grows_stage : {S : Type 0} (setting : Setting S) (scene : Scene setting) (v next : View) (h : ℕ) (c : Content) (ledger : List Entry)
    (runs : World) (m : machine.Assembly) → part_of next ≡ part_of (with_entry h c v)
    → (scene.actor ≡ h → IsCandidate (m.waiting h) c) → length (m.log scene.actor h) ≤ length (m.longest h)
    → Stage setting scene v ledger runs m
    → Stage setting scene next ledger (with_slot h (length_of v h) (Some c) runs) (machines.with_entry m scene.actor h c)
grows_stage {S} setting scene v next h c ledger runs m same may fits k = record {
  here = record {
    me = ap (λ (p : Part). p.me) same ∙ k.here.me;
    epoch_is = k.here.epoch_is ∙ ap (λ (p : Part). p.epoch) (sym same);
    wedged_is = k.here.wedged_is ∙ ap (λ (p : Part). p.wedged) (sym same);
    log_is = λ x. grown_there m g h c v.logs k.here.log_is x ∙ ap (λ (p : Part). p.logs x) (sym same);
    waiting_is = waiting_there m g h v.me c v.waiting k.here.me k.here.waiting_is may ∙ ap (λ (p : Part). p.waiting) (sym same);
    lives = subst (λ (p : Part). (x : ℕ) → x < setting.scope.rules.hosts → m.live p.epoch x ≡ not (p.retired x)) (sym same) k.here.lives;
    begins = subst (λ (p : Part). (x : ℕ) → x < setting.scope.rules.hosts → p.retired x ≡ false → m.base p.epoch x ≡ p.base x) (sym same) k.here.begins;
  };
  beside = λ x other honest.
      subst (λ (l : ℕ → List Content). IsNode setting x (part_of (scene.nodes x)) (m.epoch x) (m.wedged x) l (machines.waiting_with m g h c x) m.base m.live)
      (sym (logs_beside m g h grown x other))
      (subst (λ (q : List (List ℤ)). IsNode setting x (part_of (scene.nodes x)) (m.epoch x) (m.wedged x) (m.log x) q m.base m.live)
      (sym (waiting_beside m g h x c other)) (k.beside x other honest));
  no_others = λ x y stranger.
      ap (λ (l : ℕ → List Content). length (l y)) (logs_beside m g h grown x (λ is. stranger (subst (IsTruthful setting) (sym is) scene.truthful)))
      ∙ k.no_others x y stranger;
  top = k.top;
  told = k.told;
  run = subst (λ n. IsRunOf (with_slot h n (Some c) runs).longest (with_slot h n (Some c) runs).run (machines.longest_with m h grown) (machines.run_with m h grown))
      (ap length (k.here.log_is h)) (slot_run runs m (m.log g h) h c fits k.run);
}
  where
    g : ℕ
    g = scene.actor

    grown : List Content
    grown = m.log g h ++ c ∷ []
