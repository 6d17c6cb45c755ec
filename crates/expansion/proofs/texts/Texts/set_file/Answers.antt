use Rattle.std.proofs.Common.{List, refl, arith}
use Rattle.std.proofs.lemmas.Result.{err_from_is_err_and}
use Rattle.parts.specs.Parts.{Entry}
use Rattle.store.specs.Stores.{used_of}
use Rattle.store.specs.Held.{entries_in}
use Rattle.values.specs.Kept.{keep}
use Rattle.expansion.specs.Model.{TextsData, file_scope, read_as}
use Rattle.expansion.specs.Meaning.{texts_of, read_of}
use Rattle.expansion.proofs.Grows.{set_says, stops_alike}
use Rattle.expansion.proofs.texts.Texts.set_file.Goals as goal

pub invariant_of-self : goal.invariant_of-self
invariant_of-self c =
    let s = c.read_value.new.self in
    let l = c.in_ok-value.ensures.lies in
    record {
      file_lies = omega (arith, s.file_lies, c.bind_in.ensures.lies);
      block_lies = omega (arith, s.block_lies);
      closed_lie = s.closed_lie;
    }

pub returns-in_err-value : goal.returns-in_err-value
returns-in_err-value c =
    let p = err_from_is_err_and c.from_residual.result c.from_residual.ensures.1 in
    let d = texts_of c.args.self.now in
    record { says = rw (p.1, p.2) (stops_alike _ (keep 0 1024 (file_scope d) d.store c.args.b.value.now) (read_as d) _ c.in_err-value.ensures.says) }

pub returns : goal.returns
returns c =
    let d = texts_of c.args.self.now in
    let s = c.read_value.new.self in
    let u = used_of s.store in
    let with : TextsData → List Entry → TextsData = λ t vs. record { store = t.store; file = vs; block = t.block; blocks = t.blocks } in
    record { says = set_says d 128 c.args.b.name.now c.bind_in.result (λ _. entries_in u c.bind_in.new.vars.items) (λ t. t.file) with (λ _. refl) (keep 0 1024 (file_scope d) d.store c.args.b.value.now) (read_of s c.in_ok-value.value) c.in_ok-value.ensures.says (c.bind_in.ensures.says u) }
