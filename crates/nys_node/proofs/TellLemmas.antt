-- What is done piece by piece: pieces joined, and host after host.
use Rattle.std.proofs.Common.{◌≡◌, ℕ, ◌+◌, Bool, List, [], ◌∷◌, ◌++◌, map, refl, ap, sym, ◌∙◌}
use Rattle.std.proofs.lemmas.List.{append_assoc, append-nil, map-append}
use Rattle.std.proofs.lemmas.List.Sums.{fold-append}
use Rattle.std.specs.Prelude.{filter, fold}
use Rattle.std.specs.List.{range_with_len}
use Rattle.nys_rules.specs.Packets.{Acts, all_joined, joined, nothing}
use Rattle.nys_sending.proofs.ReceiverLemmas.{filter_more}

-- the first two, then the third; or the first, then the others
pub joined_first : (a b c : Acts) → joined (joined a b) c ≡ joined a (joined b c)
joined_first a b c = rw (append_assoc a.made b.made c.made, append_assoc a.packets b.packets c.packets, append_assoc a.grew b.grew c.grew) refl

-- then nothing more
pub joined_end : (a : Acts) → joined a nothing ≡ a
joined_end a = rw (append-nil a.made, append-nil a.packets, append-nil a.grew) refl

-- some acts, then all of these
pub joined_then : (a : Acts) (parts : List Acts) → fold joined a parts ≡ joined a (all_joined parts)
joined_then a [] = sym (joined_end a)
joined_then a (p ∷ ps) = joined_then (joined a p) ps ∙ joined_first a p (all_joined ps) ∙ ap (λ x. joined a x) (sym (joined_then p ps))

-- all of the one list, then all of the other
pub all_then : (xs ys : List Acts) → all_joined (xs ++ ys) ≡ joined (all_joined xs) (all_joined ys)
all_then xs ys = fold-append joined nothing xs ys ∙ joined_then (all_joined xs) ys

-- what was done, then these, then those
pub told_more : (old : Acts) (xs ys : List Acts) → joined (joined old (all_joined xs)) (all_joined ys) ≡ joined old (all_joined (xs ++ ys))
told_more old xs ys = joined_first old (all_joined xs) (all_joined ys) ∙ ap (λ x. joined old x) (sym (all_then xs ys))

-- the acts of the hosts below h that pass, then those of h
pub hosts_more : (f : ℕ → Acts) (p : ℕ → Bool) (old : Acts) (h : ℕ)
    → joined (joined old (all_joined (map f (filter p (range_with_len 0 h))))) (all_joined (map f (filter p (h ∷ []))))
    ≡ joined old (all_joined (map f (filter p (range_with_len 0 (h + 1)))))
hosts_more f p old h =
    told_more old (map f (filter p (range_with_len 0 h))) (map f (filter p (h ∷ [])))
    ∙ ap (λ xs. joined old (all_joined xs)) (sym (map-append f (filter p (range_with_len 0 h)) (filter p (h ∷ [])))
    ∙ ap (λ xs. map f xs) (sym (filter_more p h)))

-- the log of a host grew in this slot
pub grown_at : (old out : Acts) (h slot n : ℕ) → out ≡ joined old (record { made = []; packets = []; grew = (h, slot) ∷ [] }) → slot ≡ n
    → out ≡ joined old (record nothing { grew = (h, n) ∷ [] })
grown_at old out h slot n is at = is ∙ ap (λ s. joined old (record { made = []; packets = []; grew = (h, s) ∷ [] })) at
