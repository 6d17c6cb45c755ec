use Rattle.std.proofs.Common.{◌≡◌, [], length, vec_items}
use Rattle.hetunawa.specs.Starts.{read_more, made_more}
use Rattle.script.specs.Texts.{words_of}
use Rattle.hetunawa.proofs.call.lists_of.Given as goal

abbrev pub invariant-reads : goal.invariant-reads
invariant-reads l = read_more (vec_items l.reads) [] (words_of l.words.rest.now) ≡ read_more [] [] (words_of l.fn.words.rest.now)

abbrev pub decreases-reads : goal.decreases-reads
decreases-reads l = length l.words.rest.now

abbrev pub invariant-outputs : goal.invariant-outputs
invariant-outputs l =
    (goal.iterator-outputs).can_next l.word-iterator
    × (goal.iterator-outputs).is_finite l.word-iterator
    × (made_more (vec_items l.reads) (vec_items l.outputs) (words_of l.word-iterator.rest.now) ≡ read_more [] [] (words_of l.fn.words.rest.now))
