use Rattle.std.proofs.Common.{◌≡◌, ◌∙◌, List, ap, subst, sym}
use Rattle.std.specs.List.{insert}
use Rattle.hearing_slots.specs.Inside.Blocks.{AreBlocks, BlockView, IsGapForBlock, all_in, block_of}
use Rattle.hearing_slots.proofs.BlockLemmas.{no_block, opened_blocks, opened_same}
use Rattle.hearing_slots.proofs.block_list.place_for.Goals as goal

inserted : (c : goal.In_ok-insert-in-Err) → c.insert.new.self.items ≡ insert c.args.blocks.now.items c.in-Err.place (no_block (block_of c.args.day))
inserted c = c.in_ok-insert-in-Err.ensures.items ∙ ap (insert c.args.blocks.now.items c.in-Err.place) c.in_ok-block-in-Err.ensures

pub returns-in_ok-insert-in-Err-clause-blocks : goal.returns-in_ok-insert-in-Err-clause-blocks
returns-in_ok-insert-in-Err-clause-blocks c =
    let gap = subst (λ (bs : List BlockView). IsGapForBlock bs (block_of c.args.day) c.in-Err.place) c.deref.ensures.value c.in-Err.ensures.absent in
    subst AreBlocks (sym (inserted c)) (opened_blocks c.args.blocks.now.items (block_of c.args.day) c.in-Err.place c.requires gap)

pub returns-in_ok-insert-in-Err-clause-same : goal.returns-in_ok-insert-in-Err-clause-same
returns-in_ok-insert-in-Err-clause-same c =
    ap all_in (inserted c) ∙ opened_same c.args.blocks.now.items (block_of c.args.day) c.in-Err.place
