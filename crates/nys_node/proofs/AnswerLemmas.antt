-- What a node answers, record after record and asker after asker.
use Rattle.std.proofs.Common.{◌≡◌, ℕ, suc, ◌+◌, ◌==◌, ◌<◌, ◌≤◌, ◌≢◌, Bool, false, List, [], ◌∷◌, ◌++◌, drop, length, map, refl, ap, sym, ◌∙◌, arith, eq-eqb}
use Rattle.std.proofs.lemmas.Bool.{ne_eqb}
use Rattle.std.proofs.lemmas.List.{drop_all, map-append}
use Rattle.std.proofs.lemmas.List.Elements.{All-weaker, filter-append, filter_map-append}
use Rattle.std.proofs.lemmas.Grind.{flat_map-append}
use Rattle.std.specs.Prelude.{filter, filter_map, flat_map, Option, Some, None, slice_get}
use Rattle.std.specs.List.{cons_option, range_with_len}
use Rattle.std.specs.Option.{option_to_list}
use Rattle.nys_rules.specs.Asking.{answering, answers_to, attest_record, attest_records, kept_records, slot_records, open_records}
use Rattle.nys_rules.specs.Packets.{Acts, joined}
use Rattle.nys_rules.specs.Scope.{Scope}
use Rattle.nys_rules.specs.View.{length_of, next_number, View}
use Rattle.nys_rules.specs.declared.kept.Kept.{Kept}
use Rattle.nys_stmt.specs.declared.tags.Tags.{Tags}
use Rattle.nys_stmt.specs.Records.{IsWhole}
use Rattle.nys_config.specs.declared.config.Config.{Config}
use Rattle.nys_source.specs.Rules.{Rules}
use Rattle.nys_node.specs.Means.{Means}
use Rattle.nys_config.specs.Scopes.{scope_of}
use Rattle.nys_node.specs.Sound.{IsSoundKept, IsTagged, tellable}
use Rattle.nys_node.specs.declared.node.Node.{Node}
use Rattle.nys_node.specs.Replies.{answer_records, kept_among, kept_record, window_of}
use Rattle.nys_sending.specs.Receivers.{replied}
use Rattle.nys_sending.proofs.ReceiverLemmas.{filter_more, range_more}
use Rattle.nys_node.proofs.ReplyLemmas.{replied_both, replied_nothing, replied_then}
use Rattle.nys_node.proofs.TellLemmas.{joined_end, joined_first}
use Rattle.nys_sending.proofs.Walks.{drop_next}

-- the records of one kept slot, then those of the rest
pub among_next : (epoch h slot : ℕ) (kept : List Kept) (i : ℕ) (k : Kept) → slice_get kept i ≡ Some k
    → kept_among epoch h slot (k ∷ []) ++ kept_among epoch h slot (drop (i + 1) kept) ≡ kept_among epoch h slot (drop i kept)
among_next epoch h slot kept i k at =
    sym (map-append (kept_record epoch h slot) (filter (λ x. x.slot == slot) (k ∷ [])) (filter (λ x. x.slot == slot) (drop (i + 1) kept)))
    ∙ ap (λ xs. map (kept_record epoch h slot) xs) (sym (filter-append (λ x. x.slot == slot) (k ∷ []) (drop (i + 1) kept)))
    ∙ ap (λ xs. kept_among epoch h slot xs) (sym (drop_next kept i k at))

-- one kept slot more was looked at
pub kept_next : (me asker epoch h slot : ℕ) (old cur new : Acts) (kept : List Kept) (i : ℕ) (k : Kept) → slice_get kept i ≡ Some k
    → new ≡ joined cur (replied me asker (kept_among epoch h slot (k ∷ []))) → joined cur (replied me asker (kept_among epoch h slot (drop i kept))) ≡ old
    → joined new (replied me asker (kept_among epoch h slot (drop (i + 1) kept))) ≡ old
kept_next me asker epoch h slot old cur new kept i k at made so_far =
    ap (λ acts. joined acts (replied me asker (kept_among epoch h slot (drop (i + 1) kept)))) made
    ∙ replied_then me asker cur (kept_among epoch h slot (k ∷ [])) (kept_among epoch h slot (drop (i + 1) kept))
    ∙ ap (λ records. joined cur (replied me asker records)) (among_next epoch h slot kept i k at)
    ∙ so_far

-- all kept slots were looked at
pub kept_end : (me asker epoch h slot : ℕ) (old out : Acts) (kept : List Kept) (i : ℕ) → length kept ≤ i
    → joined out (replied me asker (kept_among epoch h slot (drop i kept))) ≡ old → out ≡ old
kept_end me asker epoch h slot old out kept i past so_far =
    replied_nothing me asker out ∙ ap (λ ks. joined out (replied me asker (kept_among epoch h slot ks))) (sym (drop_all i kept past)) ∙ so_far

-- one record or none, as a list
pub one_of : {A : Type 0} (o : Option A) → option_to_list o ≡ cons_option o []
one_of None = refl
one_of (Some x) = refl

-- one number more of a link was looked at
pub window_next : {S : Type 0} (scope : Scope S) (v : View) (asker p h next i : ℕ) (old cur new : Acts)
    → cur ≡ joined old (replied v.me asker (filter_map (attest_record scope v p h) (range_with_len next i)))
    → new ≡ joined cur (replied v.me asker (option_to_list (attest_record scope v p h (next + i))))
    → new ≡ joined old (replied v.me asker (filter_map (attest_record scope v p h) (range_with_len next (i + 1))))
window_next scope v asker p h next i old cur new so_far made =
    let more : i + 1 ≡ suc i = omega arith in
    replied_both v.me asker old cur new (filter_map (attest_record scope v p h) (range_with_len next i)) (option_to_list (attest_record scope v p h (next + i))) so_far made
    ∙ ap (λ records. joined old (replied v.me asker records))
    (ap (λ xs. filter_map (attest_record scope v p h) (range_with_len next i) ++ xs) (one_of (attest_record scope v p h (next + i)))
    ∙ sym (filter_map-append (attest_record scope v p h) (range_with_len next i) ((next + i) ∷ []))
    ∙ ap (λ xs. filter_map (attest_record scope v p h) xs) (sym (range_more next i))
    ∙ ap (λ n. filter_map (attest_record scope v p h) (range_with_len next n)) (sym more))

-- all numbers of the window were looked at
pub window_end : {S : Type 0} (scope : Scope S) (v : View) (asker p h next i : ℕ) (old out : Acts) → next ≡ next_number scope v p h → i ≡ 64
    → out ≡ joined old (replied v.me asker (filter_map (attest_record scope v p h) (range_with_len next i)))
    → out ≡ joined old (replied v.me asker (window_of scope v h p))
unfolding window_of
window_end scope v asker p h next i old out begins all so_far =
    so_far ∙ ap (λ n. joined old (replied v.me asker (filter_map (attest_record scope v p h) (range_with_len n i)))) begins
    ∙ ap (λ n. joined old (replied v.me asker (filter_map (attest_record scope v p h) (range_with_len (next_number scope v p h) n)))) all

-- one link more was looked at
pub links_next : {S : Type 0} (scope : Scope S) (v : View) (asker h p : ℕ) (linked : ℕ → Bool) (old cur new : Acts)
    → cur ≡ joined old (replied v.me asker (flat_map (window_of scope v h) (filter linked (range_with_len 0 p))))
    → new ≡ joined cur (replied v.me asker (flat_map (window_of scope v h) (filter linked (p ∷ []))))
    → new ≡ joined old (replied v.me asker (flat_map (window_of scope v h) (filter linked (range_with_len 0 (p + 1)))))
links_next scope v asker h p linked old cur new so_far made =
    replied_both v.me asker old cur new (flat_map (window_of scope v h) (filter linked (range_with_len 0 p))) (flat_map (window_of scope v h) (filter linked (p ∷ []))) so_far made
    ∙ ap (λ records. joined old (replied v.me asker records))
    (sym (flat_map-append (window_of scope v h) (filter linked (range_with_len 0 p)) (filter linked (p ∷ [])))
    ∙ ap (λ ps. flat_map (window_of scope v h) ps) (sym (filter_more linked p)))

-- all links were looked at
pub links_end : {S : Type 0} (scope : Scope S) (v : View) (asker h n : ℕ) (old out : Acts) → n ≡ 32
    → out ≡ joined old (replied v.me asker (flat_map (window_of scope v h) (filter (λ q. scope.rules.linked q h) (range_with_len 0 n))))
    → out ≡ joined old (replied v.me asker (attest_records scope v h))
unfolding attest_records window_of
links_end scope v asker h n old out end so_far =
    so_far ∙ ap (λ k. joined old (replied v.me asker (flat_map (window_of scope v h) (filter (λ q. scope.rules.linked q h) (range_with_len 0 k))))) end

-- nothing goes to no neighbour
pub links_none : {S : Type 0} (scope : Scope S) (v : View) (asker h p : ℕ) (linked : ℕ → Bool) (old : Acts) → linked p ≡ false
    → old ≡ joined old (replied v.me asker (flat_map (window_of scope v h) (filter linked (p ∷ []))))
links_none scope v asker h p linked old fails = rw fails (replied_nothing v.me asker old)

-- one asker more was answered
pub answered_next : {S : Type 0} (scope : Scope S) (v : View) (h slot : ℕ) (old cur new : Acts) (makers : List Tags) (i : ℕ) (tags : Tags) → slice_get makers i ≡ Some tags
    → new ≡ joined cur (replied v.me tags.maker (answer_records scope v h slot tags.maker)) → joined cur (answering scope v h slot (drop i makers)) ≡ old
    → joined new (answering scope v h slot (drop (i + 1) makers)) ≡ old
unfolding answering answers_to replied
answered_next scope v h slot old cur new makers i tags at made so_far =
    ap (λ acts. joined acts (answering scope v h slot (drop (i + 1) makers))) made
    ∙ joined_first cur (replied v.me tags.maker (answer_records scope v h slot tags.maker)) (answering scope v h slot (drop (i + 1) makers))
    ∙ ap (λ ms. joined cur (answering scope v h slot ms)) (sym (drop_next makers i tags at))
    ∙ so_far

-- all askers were answered
pub answered_end : {S : Type 0} (scope : Scope S) (v : View) (h slot : ℕ) (old out : Acts) (makers : List Tags) (i : ℕ) → length makers ≤ i
    → joined out (answering scope v h slot (drop i makers)) ≡ old → out ≡ old
unfolding answering
answered_end scope v h slot old out makers i past so_far =
    sym (joined_end out) ∙ ap (λ ms. joined out (answering scope v h slot ms)) (sym (drop_all i makers past)) ∙ so_far

-- the slot behind the log is the open one
pub slot_open : {S : Type 0} (scope : Scope S) (v : View) (h slot asker : ℕ) (old out : Acts) → slot ≡ length_of v h
    → out ≡ joined old (replied v.me asker (open_records scope v h asker)) → out ≡ joined old (replied v.me asker (slot_records scope v h slot asker))
unfolding slot_records
slot_open scope v h slot asker old out is made = rw (eq-eqb slot (length_of v h) is) made

-- another is an old one
pub slot_kept : {S : Type 0} (scope : Scope S) (v : View) (h slot asker : ℕ) (old out : Acts) → slot ≢ length_of v h
    → out ≡ joined old (replied v.me asker (kept_records v h slot)) → out ≡ joined old (replied v.me asker (slot_records scope v h slot asker))
unfolding slot_records
slot_kept scope v h slot asker old out not_open made = rw (ne_eqb slot (length_of v h) not_open) made

-- what was kept of another slot isn't sent
pub vote_unsent : (me asker epoch h slot : ℕ) (old : Acts) (kept : Kept) → kept.slot ≢ slot → old ≡ joined old (replied me asker (kept_among epoch h slot (kept ∷ [])))
vote_unsent me asker epoch h slot old kept other = rw (ne_eqb kept.slot slot other) (replied_nothing me asker old)

-- what the node keeps of a slot is what the view does
pub kept_same : {P S : Type 0} (scope : Scope S) (node : Node P S) (v : View) (h slot asker : ℕ) (old out : Acts) (kept : List Kept) → Means scope node v → kept ≡ v.kept h
    → out ≡ joined old (replied node.me asker (kept_among node.epoch h slot kept)) → out ≡ joined old (replied v.me asker (kept_records v h slot))
kept_same scope node v h slot asker old out kept m same made =
    made ∙ ap (λ me. joined old (replied me asker (kept_among node.epoch h slot kept))) m.me
    ∙ ap (λ e. joined old (replied v.me asker (kept_among e h slot kept))) m.epoch
    ∙ ap (λ ks. joined old (replied v.me asker (kept_among v.epoch h slot ks))) same

-- votes that are kept are a whole record
pub vote_whole : {S : Type 0} (scope : Scope S) (v : View) (epoch h : ℕ) (kept : Kept) → epoch ≤ 63 → h < 32 → 1 ≤ tellable scope v h
    → IsSoundKept (tellable scope v h) kept → IsWhole (kept_record epoch h kept.slot kept)
vote_whole scope v epoch h kept within low told sound = record {
  range = record { epoch = within; body = (omega (arith, low), sound.slot, sound.content) };
  makers = sound.some;
  tags = All-weaker (λ (t : Tags). IsTagged (tellable scope v h) t.tags) (λ (t : Tags). 1 ≤ length t.tags) (λ t tagged. tagged told) kept.makers sound.tags;
}

-- the links of the protocol are those of the scope
pub linked_is : {P S : Type 0} (rules : Rules S) (cx : Config P) (v : View) (asker h n : ℕ) (old out : Acts)
    → out ≡ joined old (replied v.me asker (flat_map (window_of (scope_of rules cx) v h) (filter (λ q. rules.linked q h) (range_with_len 0 n))))
    → out ≡ joined old (replied v.me asker (flat_map (window_of (scope_of rules cx) v h) (filter (λ q. (scope_of rules cx).rules.linked q h) (range_with_len 0 n))))
unfolding scope_of
linked_is rules cx v asker h n old out made = made
