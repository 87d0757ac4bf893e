-- What a decided log adds to the run of a world is what it adds to the machine's.
use Rattle.std.proofs.Common.{◌≡◌, ◌≢◌, ℕ, zero, suc, ◌+◌, ◌-◌, ◌≤◌, Bool, true, false, List, [], ◌∷◌, ◌++◌, length, map, drop, refl, ap, sym, subst, ◌∙◌, inl, inr, arith, append-nil, length-append, ltb-false}
use Rattle.std.specs.Prelude.{if◌then◌else◌, nat_lt}
use Rattle.std.proofs.lemmas.Bool.{cases_eq}
use Rattle.std.proofs.lemmas.Bool.Decides.{Decides-ltb}
use Rattle.std.proofs.lemmas.List.{append_assoc}
use Rattle.nys_bytes.specs.declared.content.Content.{Content}
use Rattle.nys_source.specs.Tables.{put}
use Rattle.nys_source.specs.declared.step.Step.{Step}
use Rattle.nys_agreement.specs.Alone.{step_of}
use Rattle.nys_agreement.proofs.TableLemmas.{put_here, put_there}
use Rattle.nys_rules.specs.World.{with_decided, World}
use Rattle.nys_follows.specs.Follows.{IsRunOf}

-- the later world has a step for each of the contents behind the first n, and its longest log of h as many
-- entries more
record AddsSteps (h n : ℕ) (contents : List Content) (w next : World) : Type 0 where
  run_is : next.run ≡ w.run ++ map (step_of h) (drop n contents)
  longest_is : next.longest h ≡ w.longest h + length (drop n contents)
  others : (x : ℕ) → x ≢ h → next.longest x ≡ w.longest x

-- nothing stands behind nothing
drop_none : {A : Type 0} (n : ℕ) → ◌≡◌ {A = List A} (drop n []) []
drop_none zero = refl
drop_none (suc n) = refl

-- nor behind the end of a list
drop_past : {A : Type 0} (n : ℕ) (xs : List A) → length xs ≤ n → drop n xs ≡ []
drop_past n [] le = drop_none n
drop_past zero (x ∷ xs) le = absurd (omega arith)
drop_past (suc n) (x ∷ xs) le = drop_past n xs (omega arith)

-- where nothing is added
adds_none : (h n : ℕ) (contents : List Content) (w : World) → drop n contents ≡ [] → AddsSteps h n contents w w
adds_none h n contents w none = record {
  run_is = sym (append-nil w.run) ∙ ap (λ (xs : List Content). w.run ++ map (step_of h) xs) (sym none);
  longest_is = let long = ap length none in omega (arith, long);
  others = λ x ne. refl;
}

-- the world in which a log of h is longer than all others by a content
abbrev grown : (h slot : ℕ) → Content → World → World
grown h slot content w =
    record w { longest = put w.longest h (slot + 1); run = w.run ++ step_of h content ∷ [] }

-- a content that is added, and those behind it
adds_first : (h slot : ℕ) (content : Content) (contents : List Content) (w next : World) → w.longest h ≡ slot
    → AddsSteps h 0 contents (grown h slot content w) next → AddsSteps h 0 (content ∷ contents) w next
adds_first h slot content contents w next here k = record {
  run_is = k.run_is ∙ append_assoc w.run (step_of h content ∷ []) (map (step_of h) contents);
  longest_is =
      let a = k.longest_is in
      let b = put_here w.longest h (slot + 1) in
      omega (arith, a, b, here);
  others = λ x ne. k.others x ne ∙ put_there w.longest h (slot + 1) x ne;
}

-- decided entries from a slot on add those that pass the longest log
decided_adds : (h slot : ℕ) (contents : List Content) (w : World) → slot ≤ w.longest h
    → AddsSteps h (w.longest h - slot) contents w (with_decided h slot contents w)
decided_adds h slot [] w le = adds_none h (w.longest h - slot) [] w (drop_none (w.longest h - slot))
decided_adds h slot (content ∷ contents) w le =
    by (nat_lt slot (w.longest h)) refl (λ x low. decided_adds h (slot + 1) contents x low)
  where
    by : (b : Bool) → nat_lt slot (w.longest h) ≡ b
        → ((x : World) → slot + 1 ≤ x.longest h
        → AddsSteps h (x.longest h - (slot + 1)) contents x (with_decided h (slot + 1) contents x))
        → AddsSteps h (w.longest h - slot) (content ∷ contents) w
        (with_decided h (slot + 1) contents (if b then w else grown h slot content w))
    by true is rest =
        let lt = (Decides-ltb slot (w.longest h)).0 is in
        let k = rest w (omega (arith, lt)) in
        let one : suc (w.longest h - (slot + 1)) ≡ w.longest h - slot = omega (arith, lt) in
        subst (λ n. AddsSteps h n (content ∷ contents) w (with_decided h (slot + 1) contents w)) one
        (record { run_is = k.run_is; longest_is = k.longest_is; others = k.others })
    by false is rest =
        let ge = ltb-false slot (w.longest h) is in
        let here : w.longest h ≡ slot = omega (arith, le, ge) in
        let now = put_here w.longest h (slot + 1) in
        let next = grown h slot content w in
        let k = rest next (omega (arith, now)) in
        let none : next.longest h - (slot + 1) ≡ 0 = omega (arith, now) in
        let first : 0 ≡ w.longest h - slot = omega (arith, here) in
        subst (λ n. AddsSteps h n (content ∷ contents) w (with_decided h (slot + 1) contents next)) first
        (adds_first h slot content contents w (with_decided h (slot + 1) contents next) here
        (subst (λ n. AddsSteps h n contents next (with_decided h (slot + 1) contents next)) none k))

-- a decided log adds those entries by which it passes the longest
decided_log : (h : ℕ) (log : List Content) (w : World)
    → AddsSteps h (w.longest h) log w (with_decided h 0 log w)
decided_log h log w =
    let all : w.longest h - 0 ≡ w.longest h = omega arith in
    subst (λ n. AddsSteps h n log w (with_decided h 0 log w)) all (decided_adds h 0 log w (omega arith))

-- so the run stays the machine's
pub decided_run : (h : ℕ) (log : List Content) (w : World) (logs : ℕ → List Content) (steps : List Step)
    → IsRunOf w.longest w.run logs steps
    → IsRunOf (with_decided h 0 log w).longest (with_decided h 0 log w).run
    (put logs h (logs h ++ drop (length (logs h)) log)) (steps ++ map (step_of h) (drop (length (logs h)) log))
decided_run h log w logs steps k =
    let more = logs h ++ drop (length (logs h)) log in
    let adds = subst (λ n. AddsSteps h n log w (with_decided h 0 log w)) (sym (k.long h)) (decided_log h log w) in
    record {
      long = λ x. elim (cases_eq x h) [
        | inl here ↦
            ap (λ y. length (put logs h more y)) here ∙ ap length (put_here logs h more)
            ∙ length-append (logs h) (drop (length (logs h)) log)
            ∙ ap (λ n. n + length (drop (length (logs h)) log)) (k.long h) ∙ sym adds.longest_is
            ∙ ap (with_decided h 0 log w).longest (sym here)
        | inr there ↦ ap length (put_there logs h more x there) ∙ k.long x ∙ sym (adds.others x there)
      ];
      run_is = ap (λ run. run ++ map (step_of h) (drop (length (logs h)) log)) k.run_is ∙ sym adds.run_is;
    }

-- a log that is no longer than the longest adds nothing
pub still_run : (h : ℕ) (log : List Content) (w : World) (logs : ℕ → List Content) (steps : List Step)
    → length log ≤ length (logs h) → IsRunOf w.longest w.run logs steps
    → IsRunOf (with_decided h 0 log w).longest (with_decided h 0 log w).run logs steps
still_run h log w logs steps le k =
    let adds = subst (λ n. AddsSteps h n log w (with_decided h 0 log w)) (sym (k.long h)) (decided_log h log w) in
    let none = drop_past (length (logs h)) log le in
    record {
      long = λ x. elim (cases_eq x h) [
        | inl here ↦
            let long = ap length none in
            let now = adds.longest_is in
            let was = k.long h in
            let same : (with_decided h 0 log w).longest h ≡ length (logs h) = omega (arith, long, now, was) in
            ap (λ y. length (logs y)) here ∙ sym same ∙ ap (with_decided h 0 log w).longest (sym here)
        | inr there ↦ k.long x ∙ sym (adds.others x there)
      ];
      run_is =
          k.run_is ∙ sym (append-nil w.run) ∙ ap (λ (xs : List Content). w.run ++ map (step_of h) xs) (sym none)
          ∙ sym adds.run_is;
    }
