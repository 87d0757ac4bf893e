use Rattle.std.proofs.Common.{◌-◌, ◌≡◌, min, length, take, drop, ap, ◌∙◌, rules}
use Rattle.std.proofs.lemmas.List.{take_rest}
use Rattle.nys_outside.proofs.InputLemmas.{read_front}
use Rattle.nys_outside.proofs.mem_source.MemSourceSource.read.Goals as goal

-- the bytes from the place on were left, and their front was copied
pub returns-clause-bytes : goal.returns-clause-bytes
returns-clause-bytes c =
    let left : take (length c.deref.result.now - c.self.inside.at) (drop c.self.inside.at c.deref.result.now) ≡ drop c.self.inside.at c.self.inside.bytes.items =
    take_rest c.deref.result.now c.self.inside.at ∙ ap (λ bytes. drop c.self.inside.at bytes) c.deref.ensures.value in
    let room : length c.copy_front-n.new.buf ≡ length c.args.buf.now = search rules in
    let given : c.copy_front-n.result ≡ min (length (drop c.self.inside.at c.self.inside.bytes.items)) (length c.copy_front-n.new.buf) =
    rw (room, ← left) c.copy_front-n.ensures.size in
    rw (← c.self.view_is)
    (read_front c.self.inside.at c.copy_front-n.result c.self.inside.calls.made c.begin.new.self.made c.self.inside.bytes.items c.copy_front-n.new.buf
    c.begin.ensures.made given (rw left at c.copy_front-n.ensures.copied))
