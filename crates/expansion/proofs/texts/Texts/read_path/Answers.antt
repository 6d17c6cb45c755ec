use Rattle.std.proofs.Common.{◌∙◌}
use Rattle.store.specs.Stores.{used_of}
use Rattle.expansion.proofs.Grows.{read_says}
use Rattle.expansion.proofs.texts.Texts.read_path.Goals as goal

pub returns : goal.returns
returns c =
    let s = c.args.self.now in
    let told = c.keep.ensures in
    let l = c.of_block-lists.ensures in
    record { says = read_says (used_of s.store) (used_of c.keep.new.store) told.grown s.file.items s.block.items s.closed.items s.file_lies s.block_lies s.closed_lie 1 128 c.args.v.now s.block.items _ _ _ l.special (l.block ∙ c.deref.ensures.value) (l.file ∙ c.deref-2.ensures.value) c.keep.result told.says }
