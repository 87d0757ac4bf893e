-- How the Olympus ends its epoch and opens the next one.
use Rattle.std.proofs.Common.{◌≡◌, ℕ, suc, ◌+◌, ◌-◌, ◌<◌, ◌≤◌, ◌++◌, Bool, true, false, cond, not, List, [], ◌∷◌, length, refl, ap, subst, sym, ◌∙◌, arith}
use Rattle.std.proofs.lemmas.List.{append-nil}
use Rattle.std.proofs.lemmas.List.Elements.{All-nil}
use Rattle.std.proofs.lemmas.List.Sums.{fold-append}
use Rattle.std.proofs.lemmas.Option.{slice_get_within}
use Rattle.std.specs.Prelude.{filter, find, flat_map, fold, nat_lt, slice_get, Option, Some, None}
use Rattle.std.specs.List.{range_with_len}
use Rattle.nys_hosts.specs.Sets.{has}
use Rattle.nys_config.specs.Config.{IsConfig}
use Rattle.nys_config.specs.declared.config.Config.{Config}
use Rattle.nys_rules.specs.Handling.{done_by}
use Rattle.nys_rules.specs.Olympus.{hosts_of, in_next_epoch, inheritance, lengths_told, opening, opening_acts, OlympusView, Opens, proclaimed, unsettled, Wedges}
use Rattle.nys_rules.specs.Packets.{Acts, Done, joined, nothing}
use Rattle.nys_rules.specs.Scope.{Scope}
use Rattle.nys_rules.specs.declared.decision.Opened.TheVariants as opens
use Rattle.nys_config.specs.Scopes.{scope_of}
use Rattle.nys_sending.specs.Tables.{IsTable}
use Rattle.nys_source.specs.Rules.{Rules}
use Rattle.nys_source.specs.Tables.{lists_at}
use Rattle.nys_stmt.specs.Ranges.{IsContentInRange}
use Rattle.nys_stmt.specs.declared.statement.Body.TheVariants as body
use Rattle.nys_votes.specs.Seats.{no_seats}
use Rattle.nys_olympus.specs.Handing.{handed_over, inheritances}
use Rattle.nys_olympus.specs.Means.{IsMeant, IsViewOf}
use Rattle.nys_olympus.specs.declared.olympus.Olympus.{Olympus}
use Rattle.nys_olympus.proofs.Rows.{none_reported, table_read}

-- the epoch fits a statement
pub epoch_fits : {P S : Type 0} (rules : Rules S) (cx : Config P) (olympus : Olympus P S) → IsConfig rules.hosts cx → IsMeant (scope_of rules cx) olympus
    → olympus.epoch ≤ 63
unfolding scope_of
epoch_fits rules cx olympus config meant = let within = meant.1.means.within in omega (arith, meant.1.means.epoch, within, config.few)

-- so does the next one, where there is one
pub next_fits : {P S : Type 0} (rules : Rules S) (cx : Config P) (e : ℕ) → IsConfig rules.hosts cx → e < (scope_of rules cx).epochs → e ≤ 63
unfolding scope_of
next_fits rules cx e config within = omega (arith, within, config.few)

-- the epoch goes on: it is ended now
pub wedges_now : {S : Type 0} (scope : Scope S) (o : OlympusView) (done : Done) → o.wedged ≡ false
    → done ≡ done_by (proclaimed scope o.epoch body.Wedge (hosts_of scope)) → Wedges scope o (record o { wedged = true }) true done
wedges_now scope o done goes same = rw goes (refl, refl, same)

-- it ends already
pub wedges_not : {S : Type 0} (scope : Scope S) (o : OlympusView) (done : Done) → o.wedged ≡ true → done ≡ done_by nothing → Wedges scope o o false done
wedges_not scope o done ends same = rw ends (refl, refl, same)

-- the epoch isn't ending
pub opens_not : {S : Type 0} (scope : Scope S) (o : OlympusView) (done : Done) → o.wedged ≡ false → done ≡ done_by nothing → Opens scope o o opens.NotWedged done
unfolding opening
opens_not scope o done goes same = record { told = rw goes refl; with_it = (refl, same) }

-- there is no next epoch
pub opens_none : {S : Type 0} (scope : Scope S) (o : OlympusView) (done : Done) → o.wedged ≡ true → nat_lt (o.epoch + 1) scope.epochs ≡ false
    → done ≡ done_by nothing → Opens scope o o opens.NoNext done
unfolding opening
opens_none scope o done ends last same = record { told = rw (ends, last) refl; with_it = (refl, same) }

-- a host stands in the way
pub opens_but : {S : Type 0} (scope : Scope S) (o : OlympusView) (h : ℕ) (done : Done) → o.wedged ≡ true → nat_lt (o.epoch + 1) scope.epochs ≡ true
    → unsettled scope o ≡ Some h → done ≡ done_by nothing → Opens scope o o (opens.NotAll h) done
unfolding opening
opens_but scope o h done ends next found same = record { told = rw (ends, next, found) refl; with_it = (refl, same) }

-- nothing stands in the way
pub opens_next : {S : Type 0} (scope : Scope S) (o : OlympusView) (e : ℕ) (done : Done) → o.wedged ≡ true → nat_lt (o.epoch + 1) scope.epochs ≡ true
    → unsettled scope o ≡ None → e ≡ o.epoch + 1 → done ≡ done_by (opening_acts scope o e) → Opens scope o (in_next_epoch o) (opens.Done e) done
unfolding opening
opens_next scope o e done ends next found number same = record { told = rw (ends, next, found) (ap opens.Done number); with_it = (refl, same) }

-- the Olympus in its next epoch
pub view_next : {P S : Type 0} (scope : Scope S) (olympus after : Olympus P S) (o : OlympusView) → IsViewOf scope olympus o → o.epoch + 1 < scope.epochs
    → after.epoch ≡ olympus.epoch + 1 → after.wedged ≡ false → ((h : ℕ) → has after.decided_now h ≡ false) → after.retired ≡ olympus.retired
    → length after.base ≡ 32 → ((h n : ℕ) → slice_get after.base h ≡ Some n → n ≡ length (lists_at olympus.decided.items h))
    → after.decided.items ≡ olympus.decided.items → IsTable after.reports.items (λ _. []) → IsTable after.frozen.items (λ _. no_seats)
    → IsViewOf scope after (in_next_epoch o)
view_next scope olympus after o view later epoch goes none retired size lengths decided reports frozen = record {
  means = record {
    epoch = epoch ∙ ap (λ e. e + 1) view.means.epoch;
    within = later;
    wedged = goes;
    decided_now = none;
    retired = λ h. ap (λ set. has set h) retired ∙ view.means.retired h;
    base = record {
      size = size;
      each = λ h n at. lengths h n at ∙ ap length (table_read olympus.decided.items o.decided h [] view.means.decided (subst (λ k. h < k) size (slice_get_within after.base h n at)));
    };
    decided = subst (λ rows. IsTable rows o.decided) (sym decided) view.means.decided;
    reports = none_reported after.reports.items reports;
    frozen = frozen;
  };
  sound = record {
    base = view.sound.short;
    short = view.sound.short;
    contents = view.sound.contents;
    even = λ h open_yet. refl;
    reports = λ h slot. All-nil (λ r. IsContentInRange r.content);
    past = λ h slot behind. refl;
  };
}

-- what is left of a range is its first number and the rest
pub range_left : (h n : ℕ) → h < n → range_with_len h (n - h) ≡ h ∷ range_with_len (h + 1) (n - (h + 1))
range_left h n below = let more : n - h ≡ suc (n - (h + 1)) = omega (arith, below) in ap (λ k. range_with_len h k) more

-- a host that isn't settled, and none before
pub found_here : (f : ℕ → Bool) (h n : ℕ) → h < n → f h ≡ true → find f (range_with_len h (n - h)) ≡ Some h
found_here f h n below passes = ap (λ xs. find f xs) (range_left h n below) ∙ ap (λ b. cond b (Some h) (find f (range_with_len (h + 1) (n - (h + 1))))) passes

-- a host that is settled is left behind
pub found_later : (f : ℕ → Bool) (h n : ℕ) → h < n → f h ≡ false → find f (range_with_len (h + 1) (n - (h + 1))) ≡ find f (range_with_len h (n - h))
found_later f h n below fails =
    sym (ap (λ xs. find f xs) (range_left h n below) ∙ ap (λ b. cond b (Some h) (find f (range_with_len (h + 1) (n - (h + 1))))) fails)

-- a host that isn't retired is handed over
pub inherits_one : {S : Type 0} (scope : Scope S) (o : OlympusView) (e h : ℕ) → o.retired h ≡ false → inheritances scope o e (h ∷ []) ≡ handed_over scope e h (o.decided h)
inherits_one scope o e h live =
    ap (λ b. flat_map (inheritance scope o e) (cond (not b) (h ∷ []) [])) live ∙ append-nil (handed_over scope e h (o.decided h))

-- one host, then the others
pub inherits_next : {S : Type 0} (scope : Scope S) (o : OlympusView) (e h : ℕ) (hosts : List ℕ)
    → inheritances scope o e (h ∷ hosts) ≡ inheritances scope o e (h ∷ []) ++ inheritances scope o e hosts
inherits_next scope o e h hosts = go (o.retired h)
  where
    go : (b : Bool) → flat_map (inheritance scope o e) (cond (not b) (h ∷ filter (λ x. not (o.retired x)) hosts) (filter (λ x. not (o.retired x)) hosts))
        ≡ flat_map (inheritance scope o e) (cond (not b) (h ∷ []) []) ++ inheritances scope o e hosts
    go true = refl
    go false = ap (λ xs. xs ++ inheritances scope o e hosts) (sym (append-nil (inheritance scope o e h)))

-- one host more is handed over
pub inherits_more : {S : Type 0} (scope : Scope S) (o : OlympusView) (e h n : ℕ) (old new : Acts) → h < n → new ≡ fold joined old (inheritances scope o e (h ∷ []))
    → fold joined new (inheritances scope o e (range_with_len (h + 1) (n - (h + 1)))) ≡ fold joined old (inheritances scope o e (range_with_len h (n - h)))
inherits_more scope o e h n old new below same =
    ap (λ a. fold joined a (inheritances scope o e (range_with_len (h + 1) (n - (h + 1))))) same
    ∙ sym (fold-append joined old (inheritances scope o e (h ∷ [])) (inheritances scope o e (range_with_len (h + 1) (n - (h + 1)))))
    ∙ ap (λ xs. fold joined old xs) (sym (inherits_next scope o e h (range_with_len (h + 1) (n - (h + 1)))))
    ∙ ap (λ hosts. fold joined old (inheritances scope o e hosts)) (sym (range_left h n below))

-- an Open and all that is handed over are what is made
pub opening_is : {S : Type 0} (scope : Scope S) (o : OlympusView) (e : ℕ) (lengths : List (Option ℕ)) (list : List ℕ) (start first all : Acts)
    → lengths ≡ lengths_told scope o → list ≡ hosts_of scope → start ≡ nothing → first ≡ joined start (proclaimed scope e (body.Open lengths) list)
    → all ≡ fold joined first (inheritances scope o e (hosts_of scope)) → all ≡ opening_acts scope o e
unfolding opening_acts
opening_is scope o e lengths list start first all a b c d f = f ∙ ap (λ x. fold joined x (inheritances scope o e (hosts_of scope))) (d ∙ rw (a, b, c) refl)
