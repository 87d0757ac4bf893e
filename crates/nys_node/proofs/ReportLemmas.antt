-- What a node tells the Olympus, entry after entry and host after host.
use Rattle.std.proofs.Common.{◌≡◌, ℕ, ◌+◌, ◌≤◌, false, List, [], ◌∷◌, ◌++◌, length, map, refl, ap, sym, ◌∙◌}
use Rattle.std.proofs.lemmas.List.{drop_all, map-append}
use Rattle.std.proofs.lemmas.Grind.{flat_map-append}
use Rattle.std.specs.Prelude.{filter, flat_map, slice_get, Some, None, option_map}
use Rattle.std.specs.Option.{option_to_list}
use Rattle.std.specs.List.{enumerate_from, range_with_len}
use Rattle.nys_bytes.specs.declared.content.Content.{Content}
use Rattle.nys_rules.specs.Ending.{entry_reports, reporting, testimony, vote_report}
use Rattle.nys_rules.specs.Packets.{Acts, all_joined, joined, nothing}
use Rattle.nys_rules.specs.Scope.{Scope}
use Rattle.nys_rules.specs.Sending.{to_olympus}
use Rattle.nys_rules.specs.View.{is_live, length_of, View}
use Rattle.nys_stmt.specs.declared.statement.Body.{Body}
use Rattle.nys_stmt.specs.declared.statement.Body.TheVariants as body
use Rattle.nys_stmt.specs.declared.statement.FilledKind.TheVariants as kind
use Rattle.nys_node.specs.Told.{reports_from, told}
use Rattle.nys_sending.proofs.ReceiverLemmas.{filter_more}
use Rattle.nys_node.proofs.TellLemmas.{joined_end, told_more}
use Rattle.nys_sending.proofs.Walks.{drop_next}

-- these, then those
pub told_then : {S : Type 0} (scope : Scope S) (v : View) (old : Acts) (xs ys : List Body)
    → joined (joined old (told scope v xs)) (told scope v ys) ≡ joined old (told scope v (xs ++ ys))
unfolding told
told_then scope v old xs ys =
    told_more old (map (to_olympus scope v) xs) (map (to_olympus scope v) ys)
    ∙ ap (λ zs. joined old (all_joined zs)) (sym (map-append (to_olympus scope v) xs ys))

-- one alone
pub told_one : {S : Type 0} (scope : Scope S) (v : View) (said : Body) → told scope v (said ∷ []) ≡ to_olympus scope v said
unfolding told
told_one scope v said = refl

-- none
pub told_none : {S : Type 0} (scope : Scope S) (v : View) → told scope v [] ≡ nothing
unfolding told
told_none scope v = refl

-- the Report of a slot, then those of the slots behind it
pub report_then : {S : Type 0} (scope : Scope S) (v : View) (h slot : ℕ) (content : Content) (old out : Acts)
    → slice_get (v.logs h) slot ≡ Some content → out ≡ joined old (to_olympus scope v (body.Filled kind.Report h slot content))
    → joined out (told scope v (reports_from v h (slot + 1))) ≡ joined old (told scope v (reports_from v h slot))
report_then scope v h slot content old out at made =
    ap (λ acts. joined acts (told scope v (reports_from v h (slot + 1)))) (made ∙ ap (λ acts. joined old acts) (sym (told_one scope v (body.Filled kind.Report h slot content))))
    ∙ told_then scope v old (body.Filled kind.Report h slot content ∷ []) (reports_from v h (slot + 1))
    ∙ ap (λ log. joined old (told scope v (map (λ x. body.Filled kind.Report h x.0 x.1) (enumerate_from slot log)))) (sym (drop_next (v.logs h) slot content at))

-- past the log there is nothing to report
pub report_past : {S : Type 0} (scope : Scope S) (v : View) (h slot : ℕ) (out : Acts) → length (v.logs h) ≤ slot
    → out ≡ joined out (told scope v (reports_from v h slot))
report_past scope v h slot out past =
    sym (joined_end out) ∙ ap (λ acts. joined out acts) (sym (told_none scope v))
    ∙ ap (λ log. joined out (told scope v (map (λ x. body.Filled kind.Report h x.0 x.1) (enumerate_from slot log)))) (sym (drop_all slot (v.logs h) past))

-- what is told about a host: its Reports, then one for the vote, then the end
pub testimony_is : {S : Type 0} (scope : Scope S) (v : View) (h : ℕ) (old a b c : Acts) (entries vote : List Body) (end : Body)
    → testimony v h ≡ entries ++ (vote ++ end ∷ []) → a ≡ joined old (told scope v entries) → b ≡ joined a (told scope v vote)
    → c ≡ joined b (to_olympus scope v end) → c ≡ joined old (told scope v (testimony v h))
testimony_is scope v h old a b c entries vote end is first second third =
    third ∙ ap (λ acts. joined b acts) (sym (told_one scope v end))
    ∙ ap (λ acts. joined acts (told scope v (end ∷ []))) second
    ∙ told_then scope v a vote (end ∷ [])
    ∙ ap (λ acts. joined acts (told scope v (vote ++ end ∷ []))) first
    ∙ told_then scope v old entries (vote ++ end ∷ [])
    ∙ ap (λ bodies. joined old (told scope v bodies)) (sym is)

-- what is told about the hosts below h, then about h
pub reports_more : {S : Type 0} (scope : Scope S) (v : View) (old : Acts) (h : ℕ)
    → joined (joined old (told scope v (flat_map (testimony v) (filter (is_live scope v) (range_with_len 0 h)))))
    (told scope v (flat_map (testimony v) (filter (is_live scope v) (h ∷ []))))
    ≡ joined old (told scope v (flat_map (testimony v) (filter (is_live scope v) (range_with_len 0 (h + 1)))))
reports_more scope v old h =
    told_then scope v old (flat_map (testimony v) (filter (is_live scope v) (range_with_len 0 h))) (flat_map (testimony v) (filter (is_live scope v) (h ∷ [])))
    ∙ ap (λ bodies. joined old (told scope v bodies)) (sym (flat_map-append (testimony v) (filter (is_live scope v) (range_with_len 0 h)) (filter (is_live scope v) (h ∷ [])))
    ∙ ap (λ hosts. flat_map (testimony v) hosts) (sym (filter_more (is_live scope v) h)))

-- the hosts below 32 are all
pub reports_at_end : {S : Type 0} (scope : Scope S) (v : View) (old out : Acts) (n : ℕ) → n ≡ 32
    → out ≡ joined old (told scope v (flat_map (testimony v) (filter (is_live scope v) (range_with_len 0 n)))) → out ≡ joined old (reporting scope v)
unfolding told reporting
reports_at_end scope v old out n end so_far =
    so_far ∙ ap (λ k. joined old (told scope v (flat_map (testimony v) (filter (is_live scope v) (range_with_len 0 k))))) end

-- the parts of what is told about a host
pub testimony_parts : (v : View) (h : ℕ) → testimony v h ≡ entry_reports v h ++ (vote_report v h ++ body.Frozen h (v.voted_to h) ∷ [])
unfolding testimony
testimony_parts v h = refl

-- where nothing is told nothing is done
pub told_nothing : {S : Type 0} (scope : Scope S) (v : View) (old : Acts) → old ≡ joined old (told scope v [])
told_nothing scope v old = sym (joined_end old) ∙ ap (λ acts. joined old acts) (sym (told_none scope v))

-- nothing is told about a host that isn't live
pub untold : {S : Type 0} (scope : Scope S) (v : View) (old : Acts) (h : ℕ) → is_live scope v h ≡ false
    → old ≡ joined old (told scope v (flat_map (testimony v) (filter (is_live scope v) (h ∷ []))))
untold scope v old h dead = rw dead (told_nothing scope v old)

-- the node made a Deliver
pub vote_told : {S : Type 0} (scope : Scope S) (v : View) (h : ℕ) (content : Content) (old out : Acts) → Some content ≡ (v.desks h).delivered
    → out ≡ joined old (to_olympus scope v (body.Filled kind.Report h (length_of v h) content)) → out ≡ joined old (told scope v (vote_report v h))
vote_told scope v h content old out is made =
    made ∙ ap (λ acts. joined old acts) (sym (told_one scope v (body.Filled kind.Report h (length_of v h) content)))
    ∙ ap (λ vote. joined old (told scope v (option_to_list (option_map (λ c. body.Filled kind.Report h (length_of v h) c) vote)))) is

-- it made none
pub vote_untold : {S : Type 0} (scope : Scope S) (v : View) (h : ℕ) (old : Acts) → None ≡ (v.desks h).delivered
    → old ≡ joined old (told scope v (vote_report v h))
vote_untold scope v h old is =
    told_nothing scope v old ∙ ap (λ vote. joined old (told scope v (option_to_list (option_map (λ c. body.Filled kind.Report h (length_of v h) c) vote)))) is
