-- Olympuses of which one part changes, and views of which it changes too.
use Rattle.std.proofs.Common.{◌≡◌, ◌≢◌, ℕ, ◌<◌, ◌≤◌, ◌==◌, ◌++◌, ◌||◌, Bool, true, false, List, [], length, refl, ap, subst, sym, ◌∙◌, inl, inr, eq-eqb, arith}
use Rattle.std.proofs.lemmas.Bool.{cases_eq, ne_eqb}
use Rattle.std.proofs.lemmas.List.{length-append, length-set}
use Rattle.std.proofs.lemmas.List.Elements.{All-append}
use Rattle.std.proofs.lemmas.Option.{slice_get_read}
use Rattle.std.specs.Prelude.{All, fold, slice_get, slice_set, slice_index_or, Some}
use Rattle.std.specs.Vec.{with_item}
use Rattle.circular_buffer.proofs.Places.{slice_get-set_other, slice_get-set_same}
use Rattle.nys_agreement.proofs.TableLemmas.{put_at_case, put_case, put_here, put_there}
use Rattle.nys_bytes.specs.declared.content.Content.{Content}
use Rattle.nys_hosts.specs.Sets.{has}
use Rattle.nys_hosts.specs.declared.set.HostSet.{HostSet}
use Rattle.nys_rules.specs.Olympus.{is_settled, OlympusView, Reported, supports, with_decision, with_report}
use Rattle.nys_rules.specs.Scope.{Scope}
use Rattle.nys_sending.proofs.TableLemmas.{same_found, table_put}
use Rattle.nys_source.proofs.TableLemmas.{same_at_all}
use Rattle.nys_source.specs.Tables.{lists_at, put, put_at}
use Rattle.nys_stmt.specs.Ranges.{IsContentInRange}
use Rattle.nys_stmt.specs.declared.tags.Tags.{Tags}
use Rattle.nys_olympus.specs.Means.{AreReports, IsViewOf}
use Rattle.nys_olympus.specs.declared.olympus.Olympus.{Olympus}
use Rattle.nys_olympus.proofs.Ranges.{follows_in, follows_short, reports_in}

-- reports of one slot of a host change
reports_put : (dockets : List (List (List Reported))) (reports : ℕ → ℕ → List Reported) (h slot : ℕ) (old new : List (List Reported)) (change : List Reported → List Reported)
    → h < 32 → old ≡ slice_index_or dockets h old
    → ((s : ℕ) → lists_at new s ≡ put (lists_at old) slot (change (lists_at old slot)) s)
    → AreReports dockets reports → AreReports (slice_set dockets h new) (put_at reports h slot (change (reports h slot)))
reports_put dockets reports h slot old new change below at changed table = record {
  size = length-set dockets h new ∙ table.size;
  each = λ k docket found s. elim (cases_eq k h) [
    | inl e ↦ here k docket found s e
    | inr ne ↦ table.each k docket (sym (slice_get-set_other dockets h k new ne) ∙ found) s ∙ sym (ap (λ f. f s) (put_there reports h (put (reports h) slot (change (reports h slot))) k ne))
  ];
}
  where
    same : lists_at old ≡ reports h
    same = same_at_all (λ s. table.each h old (slice_get_read dockets 32 h old (sym table.size) below at) s)

    here : (k : ℕ) (docket : List (List Reported)) → slice_get (slice_set dockets h new) k ≡ Some docket → (s : ℕ) → k ≡ h
        → lists_at docket s ≡ put_at reports h slot (change (reports h slot)) k s
    here k docket found s e =
        ap (λ d. lists_at d s) (same_found (slice_get (slice_set dockets h new) h) new docket (slice_get-set_same dockets h new (omega (arith, table.size, below)))
        (subst (λ z. slice_get (slice_set dockets h new) z ≡ Some docket) e found))
        ∙ changed s
        ∙ ap (λ f. put f slot (change (f slot)) s) same
        ∙ sym (ap (λ f. f s) (put_here reports h (put (reports h) slot (change (reports h slot)))))
        ∙ ap (λ z. put_at reports h slot (change (reports h slot)) z s) (sym e)

-- reports of a slot are noted
pub view_reports : {P S : Type 0} (scope : Scope S) (olympus : Olympus P S) (o : OlympusView) (h slot : ℕ) (content : Content) (makers : List Tags)
    (old new : List (List Reported)) → h < 32 → slot ≤ 1023 → IsContentInRange content → old ≡ slice_index_or olympus.reports.items h old
    → ((s : ℕ) → lists_at new s ≡ put (lists_at old) slot (fold (with_report content) (lists_at old slot) makers) s)
    → IsViewOf scope olympus o
    → IsViewOf scope (record olympus { reports = with_item olympus.reports h new })
    (record o { reports = put_at o.reports h slot (fold (with_report content) (o.reports h slot) makers) })
view_reports scope olympus o h slot content makers old new below low range at changed view = record {
  means = record {
    epoch = view.means.epoch;
    within = view.means.within;
    wedged = view.means.wedged;
    decided_now = view.means.decided_now;
    retired = view.means.retired;
    base = view.means.base;
    decided = view.means.decided;
    reports = reports_put olympus.reports.items o.reports h slot old new (λ rs. fold (with_report content) rs makers) below at changed view.means.reports;
    frozen = view.means.frozen;
  };
  sound = record {
    base = view.sound.base;
    short = view.sound.short;
    contents = view.sound.contents;
    even = view.sound.even;
    reports = λ k s. put_at_case (λ rs. All (λ r. IsContentInRange r.content) rs) o.reports h slot (fold (with_report content) (o.reports h slot) makers) k s
        (λ a b. reports_in content range makers (o.reports h slot) (view.sound.reports h slot)) (λ ne. view.sound.reports k s);
    past = λ k s behind. put_at_case (λ rs. rs ≡ []) o.reports h slot (fold (with_report content) (o.reports h slot) makers) k s
        (λ a b. absurd (omega (arith, b, low, behind))) (λ ne. view.sound.past k s behind);
  };
}

-- the test of a set with one host more
with_one : (set more : HostSet) (f : ℕ → Bool) (h : ℕ) → ((k : ℕ) → has set k ≡ f k) → ((k : ℕ) → has more k ≡ (has set k || (h == k)))
    → (k : ℕ) → has more k ≡ put f h true k
with_one set more f h same one k = one k ∙ ap (λ b. b || (h == k)) (same k) ∙ put_case (λ b. (f k || (h == k)) ≡ b) f h true k (λ e. rw e (or_self h (f h))) (λ ne. other ne)
  where
    or_self : (x : ℕ) (b : Bool) → (b || (x == x)) ≡ true
    or_self x true = refl
    or_self x false = eq-eqb x x refl

    or_false : (b : Bool) → (b || false) ≡ b
    or_false true = refl
    or_false false = refl

    other : k ≢ h → (f k || (h == k)) ≡ f k
    other ne = rw (ne_eqb h k (λ e. ne (sym e))) (or_false (f k))

-- the log of a host is decided
pub view_decided : {P S : Type 0} (scope : Scope S) (olympus : Olympus P S) (o : OlympusView) (h : ℕ) (decided_now : HostSet) (old new contents : List Content)
    → h < 32 → ((k : ℕ) → has decided_now k ≡ (has olympus.decided_now k || (h == k))) → old ≡ slice_index_or olympus.decided.items h old
    → new ≡ old ++ contents → IsViewOf scope olympus o → is_settled o h ≡ false → contents ≡ supports scope o h
    → IsViewOf scope (record olympus { decided_now = decided_now; decided = with_item olympus.decided h new }) (with_decision scope h o)
unfolding supports
view_decided scope olympus o h decided_now old new contents below more at same view open_yet are = record {
  means = record {
    epoch = view.means.epoch;
    within = view.means.within;
    wedged = view.means.wedged;
    decided_now = with_one olympus.decided_now decided_now o.decided_now h view.means.decided_now more;
    retired = view.means.retired;
    base = view.means.base;
    decided = table_put olympus.decided.items o.decided h new (o.decided h ++ supports scope o h) view.means.decided below
        (same ∙ ap (λ xs. xs ++ contents) (view.means.decided.each h old (slice_get_read olympus.decided.items 32 h old (sym view.means.decided.size) below at)) ∙ ap (λ xs. o.decided h ++ xs) are);
    reports = view.means.reports;
    frozen = view.means.frozen;
  };
  sound = record {
    base = view.sound.base;
    short = λ k. put_case (λ xs. length xs ≤ 1024) o.decided h (o.decided h ++ supports scope o h) k (λ e. whole) (λ ne. view.sound.short k);
    contents = λ k. put_case (λ xs. All IsContentInRange xs) o.decided h (o.decided h ++ supports scope o h) k
        (λ e. All-append IsContentInRange (o.decided h) (supports scope o h) (view.sound.contents h) (follows_in 1024 scope o h (o.base h) view.sound))
        (λ ne. view.sound.contents k);
    even = λ k. even k;
    reports = view.sound.reports;
    past = view.sound.past;
  };
}
  where
    whole : length (o.decided h ++ supports scope o h) ≤ 1024
    whole =
        let short = follows_short 1024 scope o h (o.base h) view.sound (view.sound.base h) in
        omega (arith, length-append (o.decided h) (supports scope o h), view.sound.even h open_yet, short)

    even : (k : ℕ) → is_settled (with_decision scope h o) k ≡ false → length ((with_decision scope h o).decided k) ≡ o.base k
    even k = elim (cases_eq k h) [
      | inl e ↦ λ fails. absurd (let is : put o.decided_now h true k ≡ true = ap (λ z. put o.decided_now h true z) e ∙ put_here o.decided_now h true in
          let no = ap (λ b. b || o.retired k) (sym is) ∙ fails in cc)
      | inr ne ↦ λ fails. ap length (put_there o.decided h (o.decided h ++ supports scope o h) k ne)
          ∙ view.sound.even k (ap (λ b. b || o.retired k) (sym (put_there o.decided_now h true k ne)) ∙ fails)
    ]

-- a host is given up
pub view_retired : {P S : Type 0} (scope : Scope S) (olympus : Olympus P S) (o : OlympusView) (h : ℕ) (retired : HostSet)
    → ((k : ℕ) → has retired k ≡ (has olympus.retired k || (h == k))) → IsViewOf scope olympus o
    → IsViewOf scope (record olympus { retired = retired }) (record o { retired = put o.retired h true })
view_retired scope olympus o h retired more view = record {
  means = record {
    epoch = view.means.epoch;
    within = view.means.within;
    wedged = view.means.wedged;
    decided_now = view.means.decided_now;
    retired = with_one olympus.retired retired o.retired h view.means.retired more;
    base = view.means.base;
    decided = view.means.decided;
    reports = view.means.reports;
    frozen = view.means.frozen;
  };
  sound = record {
    base = view.sound.base;
    short = view.sound.short;
    contents = view.sound.contents;
    even = even;
    reports = view.sound.reports;
    past = view.sound.past;
  };
}
  where
    settles : (b : Bool) → (b || true) ≡ true
    settles true = refl
    settles false = refl

    even : (k : ℕ) → is_settled (record o { retired = put o.retired h true }) k ≡ false → length (o.decided k) ≡ o.base k
    even k = elim (cases_eq k h) [
      | inl e ↦ λ fails. absurd (let is : put o.retired h true k ≡ true = ap (λ z. put o.retired h true z) e ∙ put_here o.retired h true in
          let no = sym (settles (o.decided_now k)) ∙ ap (λ b. o.decided_now k || b) (sym is) ∙ fails in cc)
      | inr ne ↦ λ fails. view.sound.even k (ap (λ b. o.decided_now k || b) (sym (put_there o.retired h true k ne)) ∙ fails)
    ]

-- the epoch is ending
pub view_wedged : {P S : Type 0} (scope : Scope S) (olympus : Olympus P S) (o : OlympusView) → IsViewOf scope olympus o
    → IsViewOf scope (record olympus { wedged = true }) (record o { wedged = true })
view_wedged scope olympus o view = record {
  means = record {
    epoch = view.means.epoch;
    within = view.means.within;
    wedged = refl;
    decided_now = view.means.decided_now;
    retired = view.means.retired;
    base = view.means.base;
    decided = view.means.decided;
    reports = view.means.reports;
    frozen = view.means.frozen;
  };
  sound = record {
    base = view.sound.base;
    short = view.sound.short;
    contents = view.sound.contents;
    even = view.sound.even;
    reports = view.sound.reports;
    past = view.sound.past;
  };
}
