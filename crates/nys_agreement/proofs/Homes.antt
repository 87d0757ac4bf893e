-- The epoch that put each entry of the run there.
use Rattle.std.proofs.Common.{◌≡◌, ℕ, zero, suc, ◌+◌, ◌-◌, ◌<◌, ◌≤◌, ◌⊎◌, List, [], ◌∷◌, ◌++◌, length, map, refl, sym, ap, subst, ◌∙◌, inl, inr, true, arith, Some, length-append}
use Rattle.std.specs.Prelude.{slice_get}
use Rattle.std.proofs.lemmas.Bool.{cases_eq, cases_order}
use Rattle.std.proofs.lemmas.List.{length-map}
use Rattle.std.proofs.lemmas.Option.{slice_get_within}
use Rattle.nys_bytes.specs.declared.content.Content.{Content}
use Rattle.nys_source.specs.Rules.{Rules}
use Rattle.nys_agreement.specs.Net.{Net}
use Rattle.nys_agreement.specs.Said.{By, Has}
use Rattle.nys_agreement.specs.Said.Said.{Deliver}
use Rattle.nys_agreement.specs.Assembly.{beginning, Assembly}
use Rattle.nys_agreement.specs.Events.{Enabled, Event}
use Rattle.nys_agreement.specs.Events.Event.{Decides, Enters, Hands, Inherits, Logs, Opens, Retires, Says, TopWedges, Wedges}
use Rattle.nys_agreement.specs.After.{after, after_all, Follows, home_with, longest_with, surplus, with_decision, with_entry}
use Rattle.nys_agreement.specs.Claims.{Always, HaveHomes}
use Rattle.nys_agreement.proofs.ListLemmas.{get_inside, in_append, in_grown, in_push}
use Rattle.nys_agreement.proofs.TableLemmas.{put_here, put_there}
use Rattle.nys_agreement.proofs.Ledgers.{honest_vouch, same_delivers}
use Rattle.nys_agreement.proofs.Later.{Later, later_decides, later_step}
use Rattle.nys_agreement.proofs.Evidence.{below, Certified, certified_on, Decision, decision_on, decision_on_epoch, Safe}
use Rattle.nys_agreement.proofs.EvidenceSteps.{decide_new}
use Rattle.nys_agreement.proofs.Agreement.{Sound, sound_first, sound_step}
use Rattle.nys_agreement.proofs.Spelling.{kept}

-- epoch e put the entry there: a quorum delivers it in e, or it was decided for the end of e
abbrev pub IsHome : Net → Assembly → ℕ → ℕ → ℕ → Content → Type 0
IsHome net w e h s c =
    ((e ≤ w.top) × Certified net w.ledger w.base e h s c)
    ⊎ ((slice_get (w.decided h) s ≡ Some c) × ((d : Decision w.ledger w.top w.base h s c) × (d.epoch ≡ e)))

-- each entry of the longest logs has a home
pub record HomesOk (net : Net) (w : Assembly) : Type 0 where
  pub long : (h : ℕ) → length (w.home h) ≡ length (w.longest h)
  pub home : (h s e : ℕ) (c : Content) → slice_get (w.home h) s ≡ Some e → slice_get (w.longest h) s ≡ Some c → IsHome net w e h s c

-- a home stays one
home_on : (net : Net) (w l : Assembly) → Later w l → (e h s : ℕ) (c : Content) → IsHome net w e h s c → IsHome net l e h s c
home_on net w l later e h s c (inl why) = let a = later.top in let b = why.0 in inl (omega arith, certified_on net w l later e h s c why.0 why.1)
home_on net w l later e h s c (inr why) =
    inr (later.decided h s c why.0, (decision_on w l later h s c why.0 why.1.0, decision_on_epoch w l later h s c why.0 why.1.0 ∙ why.1.1))

-- each member of a list of one value is that value
all_one : {A : Type 0} (e : ℕ) (xs : List A) (i d : ℕ) → slice_get (map (λ x. e) xs) i ≡ Some d → e ≡ d
all_one e [] i d get = absurd (cc)
all_one e (x ∷ xs) zero d get = cc
all_one e (x ∷ xs) (suc i) d get = all_one e xs i d get

-- the homes of a log that grew in epoch e, where each new entry has that home
grown_homes : (net : Net) (w l : Assembly) → HomesOk net w → Later w l → (e i : ℕ) (log : List Content) → ((s : ℕ) (c : Content) → length (w.longest i) ≤ s → slice_get log s ≡ Some c → IsHome net l e i s c)
    → (s d : ℕ) (c : Content) → slice_get (w.home i ++ map (λ x. e) (surplus w i log)) s ≡ Some d → slice_get (w.longest i ++ surplus w i log) s ≡ Some c → IsHome net l d i s c
grown_homes net w l ok later e i log new s d c home entry =
    let same = ok.long i in
    elim (in_append (w.home i) (map (λ x. e) (surplus w i log)) s d home) [
      | inl old ↦
          let lt = slice_get_within (w.home i) s d old in
          elim (in_grown (w.longest i) log s c entry) [
            | inl first ↦ home_on net w l later d i s c (ok.home i s d c old first)
            | inr past ↦ absurd (let le = past.0 in omega arith)
          ]
      | inr past ↦
          let le = past.0 in
          let is = all_one e (surplus w i log) (s - length (w.home i)) d past.1 in
          elim (in_grown (w.longest i) log s c entry) [
            | inl first ↦ absurd (let lt = slice_get_within (w.longest i) s c first in omega arith)
            | inr there ↦ subst (λ n. IsHome net l n i s c) is (new s c there.0 there.1)
          ]
    ]

-- homes grow as the logs do
homes_length : (w : Assembly) → ((h : ℕ) → length (w.home h) ≡ length (w.longest h)) → (e i : ℕ) (log : List Content) (h : ℕ) → length (home_with w e i log h) ≡ length (longest_with w i log h)
homes_length w ok e i log h = elim (cases_eq h i) [
  | inl q ↦
      let a = length-append (w.home i) (map (λ x. e) (surplus w i log)) in
      let b = length-append (w.longest i) (surplus w i log) in
      let c = length-map (surplus w i log) (λ (x : Content). e) in
      let d = ok i in
      ap length (ap (home_with w e i log) q ∙ put_here w.home i (w.home i ++ map (λ x. e) (surplus w i log)))
      ∙ ((let same : length (w.home i ++ map (λ x. e) (surplus w i log)) ≡ length (w.longest i ++ surplus w i log) = omega arith in same)
      ∙ sym (ap length (ap (longest_with w i log) q ∙ put_here w.longest i (w.longest i ++ surplus w i log))))
  | inr ne ↦
      ap length (put_there w.home i (w.home i ++ map (λ x. e) (surplus w i log)) h ne)
      ∙ (ok h ∙ sym (ap length (put_there w.longest i (w.longest i ++ surplus w i log) h ne)))
]

-- an assembly whose longest log of one host grew
grow_homes : (net : Net) (w l : Assembly) → HomesOk net w → Later w l → (e i : ℕ) (log : List Content) → ((s : ℕ) (c : Content) → length (w.longest i) ≤ s → slice_get log s ≡ Some c → IsHome net l e i s c)
    → l.home ≡ home_with w e i log → l.longest ≡ longest_with w i log → HomesOk net l
grow_homes net w l ok later e i log new home longest = record {
  long = λ h. ap (λ (f : ℕ → List ℕ). length (f h)) home ∙ (homes_length w ok.long e i log h ∙ sym (ap (λ (f : ℕ → List Content). length (f h)) longest));
  home = λ h s d c at entry. elim (cases_eq h i) [
    | inl q ↦
        subst (λ n. IsHome net l d n s c) (sym q) (grown_homes net w l ok later e i log new s d c
        (sym (ap (λ (xs : List ℕ). slice_get xs s) (ap (λ (f : ℕ → List ℕ). f h) home ∙ (ap (home_with w e i log) q ∙ put_here w.home i (w.home i ++ map (λ x. e) (surplus w i log))))) ∙ at)
        (sym (ap (λ (xs : List Content). slice_get xs s) (ap (λ (f : ℕ → List Content). f h) longest ∙ (ap (longest_with w i log) q ∙ put_here w.longest i (w.longest i ++ surplus w i log)))) ∙ entry))
    | inr ne ↦
        home_on net w l later d h s c (ok.home h s d c
        (sym (ap (λ (xs : List ℕ). slice_get xs s) (ap (λ (f : ℕ → List ℕ). f h) home ∙ put_there w.home i (w.home i ++ map (λ x. e) (surplus w i log)) h ne)) ∙ at)
        (sym (ap (λ (xs : List Content). slice_get xs s) (ap (λ (f : ℕ → List Content). f h) longest ∙ put_there w.longest i (w.longest i ++ surplus w i log) h ne)) ∙ entry))
  ];
}

-- a log grows in its node's epoch
logs_homes : {S : Type 0} (rules : Rules S) (net : Net) (w : Assembly) → Sound net w → HomesOk net w → (g i : ℕ) (c : Content) → Enabled rules net w (Logs g i c) → HomesOk net (with_entry w g i c)
logs_homes rules net w sound ok g i c may =
    let fits = sound.evidence.fits g i in
    let old = sound.safe.votes.epochs g in
    grow_homes net w (with_entry w g i c) ok (later_step rules net w (Logs g i c) may) (w.epoch g) i (w.log g i ++ c ∷ [])
    (λ s d le get. elim (in_push (w.log g i) c s d get) [
      | inl before ↦ absurd (let lt = slice_get_within (w.log g i) s d before in omega arith)
      | inr new ↦ rw new.0 (subst (λ x. IsHome net (with_entry w g i c) (w.epoch g) i (length (w.log g i)) x) new.1 (inl (old, record { above_base = may.0.above_base; delivers = may.1 })))
    ]) refl refl

-- an inherited entry is no new one
inherits_homes : {S : Type 0} (rules : Rules S) (net : Net) (w : Assembly) → Sound net w → HomesOk net w → (g i : ℕ) (c : Content) → Enabled rules net w (Inherits g i c) → HomesOk net (with_entry w g i c)
inherits_homes rules net w sound ok g i c may =
    let within = slice_get_within (w.decided i) (length (w.log g i)) c may.2 in
    let fits = sound.evidence.decided_fits i in
    let long = length-append (w.log g i) (c ∷ []) in
    grow_homes net w (with_entry w g i c) ok (later_step rules net w (Inherits g i c) may) (w.epoch g) i (w.log g i ++ c ∷ [])
    (λ s d le get. absurd (let lt = slice_get_within (w.log g i ++ c ∷ []) s d get in omega arith)) refl refl

-- a decided log grows in the epoch that ends
decides_homes : {S : Type 0} (rules : Rules S) (net : Net) (w : Assembly) → Sound net w → HomesOk net w → (i : ℕ) (more : List Content) → Enabled rules net w (Decides i more) → HomesOk net (with_decision w i more)
decides_homes rules net w sound ok i more may =
    let fits = sound.evidence.decided_fits i in
    grow_homes net w (with_decision w i more) ok (later_decides w i more) w.top i (w.decided i ++ more)
    (λ s d le get. elim (in_append (w.decided i) more s d get) [
      | inl old ↦ absurd (let lt = slice_get_within (w.decided i) s d old in omega arith)
      | inr new ↦ inr (
        ap (λ (xs : List Content). slice_get xs s) (put_here w.decided i (w.decided i ++ more)) ∙ get,
        decide_new net w sound.safe sound.evidence i more may s d new.0 new.1,
      )
    ]) refl refl

-- an event that leaves the longest logs
same_homes : (net : Net) (w l : Assembly) → HomesOk net w → Later w l → l.home ≡ w.home → l.longest ≡ w.longest → HomesOk net l
same_homes net w l ok later home longest = record {
  long = λ h. ap (λ (f : ℕ → List ℕ). length (f h)) home ∙ (ok.long h ∙ sym (ap (λ (f : ℕ → List Content). length (f h)) longest));
  home = λ h s e c at entry. home_on net w l later e h s c (ok.home h s e c
      (sym (ap (λ (f : ℕ → List ℕ). slice_get (f h) s) home) ∙ at) (sym (ap (λ (f : ℕ → List Content). slice_get (f h) s) longest) ∙ entry));
}

-- each event keeps this
homes_step : {S : Type 0} (rules : Rules S) (net : Net) (w : Assembly) (event : Event) → Sound net w → HomesOk net w → Enabled rules net w event → HomesOk net (after w event)
homes_step rules net w (Logs g h c) sound ok may = logs_homes rules net w sound ok g h c may
homes_step rules net w (Inherits g h c) sound ok may = inherits_homes rules net w sound ok g h c may
homes_step rules net w (Decides h more) sound ok may = decides_homes rules net w sound ok h more may
homes_step rules net w (Says g said) sound ok may = same_homes net w (after w (Says g said)) ok (later_step rules net w (Says g said) may) refl refl
homes_step rules net w (Wedges g) sound ok may = same_homes net w (after w (Wedges g)) ok (later_step rules net w (Wedges g) may) refl refl
homes_step rules net w (Enters g to) sound ok may = same_homes net w (after w (Enters g to)) ok (later_step rules net w (Enters g to) may) refl refl
homes_step rules net w (Hands h payload) sound ok may = same_homes net w (after w (Hands h payload)) ok (later_step rules net w (Hands h payload) may) refl refl
homes_step rules net w TopWedges sound ok may = same_homes net w (after w TopWedges) ok (later_step rules net w TopWedges may) refl refl
homes_step rules net w (Retires h) sound ok may = same_homes net w (after w (Retires h)) ok (later_step rules net w (Retires h) may) refl refl
homes_step rules net w Opens sound ok may = same_homes net w (after w Opens) ok (later_step rules net w Opens may) refl refl

-- a list of events keeps it
homes_all : {S : Type 0} (rules : Rules S) (net : Net) (w : Assembly) (events : List Event) → Sound net w → HomesOk net w → Follows rules net w events → HomesOk net (after_all w events)
homes_all rules net w [] sound ok may = ok
homes_all rules net w (event ∷ events) sound ok may =
    homes_all rules net (after w event) events (sound_step rules net w event sound may.0) (homes_step rules net w event sound ok may.0) may.1

-- an honest guard delivered the entry in its home
home_deliver : (net : Net) (w : Assembly) → Safe net w → (e h s : ℕ) (c : Content) → IsHome net w e h s c → (x : ℕ) × (e ≤ w.top) × (w.base e h ≤ s) × Has w.ledger (By x (Deliver e h s c))
home_deliver net w safe e h s c (inl why) =
    let x = honest_vouch net safe.few w.ledger e h (Deliver e h s c) why.1.delivers in (x.0, why.0, why.1.above_base, x.2)
home_deliver net w safe e h s c (inr why) =
    let d = why.1.0 in
    let a = (safe.votes.delivers d.maker d.epoch h s c d.delivered).begun in
    let b = safe.votes.epochs d.maker in
    let le : d.epoch ≤ w.top = omega arith in
    (d.maker, subst (λ n. n ≤ w.top) why.1.1 le, subst (λ n. w.base n h ≤ s) why.1.1 d.above_base, subst (λ n. Has w.ledger (By d.maker (Deliver n h s c))) why.1.1 d.delivered)

-- a later epoch in which the host lives begins past the entry
home_below : (net : Net) (w : Assembly) → Safe net w → (e l h s : ℕ) (c : Content) → IsHome net w e h s c → e < l → l ≤ w.top → w.live l h ≡ true → s < w.base l h
home_below net w safe e l h s c (inl why) lt le alive = below net w safe e l h s c why.1 lt le alive
home_below net w safe e l h s c (inr why) lt le alive =
    let d = why.1.0 in
    let q = why.1.1 in
    elim d.bound [
      | inl last ↦ absurd (omega arith)
      | inr ended ↦
          let up = safe.openings.rises (d.epoch + 1) l h (omega arith) le in
          let a = ended.1 in
          omega arith
    ]

-- no honest Deliver for a slot is of an epoch past the home of its entry
not_later : (net : Net) (w : Assembly) → Safe net w → (x e h s l : ℕ) (c : Content) → Has w.ledger (By x (Deliver e h s c)) → (d : Content) → IsHome net w l h s d → e ≤ l
not_later net w safe x e h s l c made d home =
    let at = safe.votes.delivers x e h s c made in
    elim (cases_order e l) [
      | inl same ↦ omega arith
      | inr (inl lt) ↦ omega arith
      | inr (inr gt) ↦ absurd (
          let a = at.begun in
          let b = safe.votes.epochs x in
          let up = home_below net w safe l e h s d home gt (omega arith) at.lives in
          let f = at.above_base in
          omega arith)
    ]

-- homes never fall
homes_rise : (net : Net) (w : Assembly) → Safe net w → (h s r e l : ℕ) → s ≤ r → (c d : Content) → IsHome net w e h s c → IsHome net w l h r d → e ≤ l
homes_rise net w safe h s r e l le c d first second = elim (cases_order e l) [
  | inl same ↦ omega arith
  | inr (inl lt) ↦ omega arith
  | inr (inr gt) ↦ absurd (
      let x = home_deliver net w safe e h s c first in
      let at = safe.votes.delivers x.0 e h s c x.3 in
      let up = home_below net w safe l e h r d second gt x.1 at.lives in
      let f = x.2 in
      omega arith)
]

-- each entry of the run has a home
pub have_homes : {S : Type 0} (rules : Rules S) → Always rules (HaveHomes rules)
have_homes rules net few events may =
    let w = after_all beginning events in
    let k = kept rules net few events may in
    let safe = k.sound.safe in
    let ok = homes_all rules net beginning events (sound_first net few) (record { long = λ h. refl; home = λ h s e c get. absurd (cc) }) may in
    let entry = λ (h s e : ℕ) (at : slice_get (w.home h) s ≡ Some e).
    let lt = slice_get_within (w.home h) s e at in let same = ok.long h in get_inside (w.longest h) s (omega arith) in
    let home = λ (h s e : ℕ) (at : slice_get (w.home h) s ≡ Some e). ok.home h s e (entry h s e at).0 at (entry h s e at).1 in
    let last = λ (x e h s l : ℕ) (c : Content) (made : Has w.ledger (By x (Deliver e h s c))) (at : slice_get (w.home h) s ≡ Some l).
    not_later net w safe x e h s l c made (entry h s l at).0 (home h s l at) in
    record {
      all = λ h s c get.
          let got = ap (λ (xs : List Content). slice_get xs s) (sym (k.truth.run_ok.taken h)) ∙ get in
          let lt = slice_get_within (w.longest h) s c got in
          let same = ok.long h in
          let e = get_inside (w.home h) s (omega arith) in
          let x = home_deliver net w safe e.0 h s c (ok.home h s e.0 c e.1 got) in
          (e.0, x.0, e.1, x.1, x.2, x.3);
      rise = λ h s r e l le one two. homes_rise net w safe h s r e l le (entry h s e one).0 (entry h r l two).0 (home h s e one) (home h r l two);
      last = last;
      same = λ x e h s c made at.
          let y = home_deliver net w safe e h s (entry h s e at).0 (home h s e at) in
          let q = same_delivers net few w.ledger safe.ledger y.0 x e h s (entry h s e at).0 c y.3 made in
          ap (λ (xs : List Content). slice_get xs s) (k.truth.run_ok.taken h) ∙ ((entry h s e at).1 ∙ ap (λ (d : Content). Some d) q);
    }
