use Rattle.std.proofs.Common.{◌≤◌, ◌++◌, ◌∷◌, [], ◌∙◌, ap, length, arith}
use Rattle.std.proofs.lemmas.List.{length-append}
use Rattle.circular_buffer.specs.Buffer.{keep_last}
use Rattle.nys_node.proofs.HandleLemmas.{keeps_all}
use Rattle.nys_node.proofs.LogLemmas.{means_waiting}
use Rattle.nys_node.proofs.node.Node.wait.Goals as goal

-- the input is the last of all
pub returns : goal.returns
returns g c = λ scope v room m.
    let queue = v.waiting ++ c.args.payload ∷ [] in
    let few : length queue ≤ 1024 = omega (arith, length-append v.waiting (c.args.payload ∷ []), room) in
    means_waiting scope c.args.self.now c.push_back.new.self queue v
    (ap (λ b. b.items) c.push_back.ensures.items ∙ ap (λ n. keep_last n (c.args.self.now.waiting.items ++ c.args.payload ∷ [])) m.room
    ∙ ap (λ items. keep_last 1024 (items ++ c.args.payload ∷ [])) m.waiting ∙ keeps_all 1024 queue few)
    (ap (λ b. b.capacity) c.push_back.ensures.items) m
