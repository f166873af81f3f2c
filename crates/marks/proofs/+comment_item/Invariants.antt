-- `marks::comment` and `marks::item` meet their contracts. The measure: twice the bytes that are left, so that an item's first byte counts.
use Rattle.std.proofs.Common.{◌≡◌, ◌+◌, ◌≤◌, length, ◌-◌, ◌*◌}
use Rattle.scan.specs.rule.Text.{text}
use Rattle.marks.specs.rule.Marks.{comment_of}
use Rattle.marks.proofs.+comment_item.Given as goal

abbrev pub decreases-comment : goal.decreases-comment
decreases-comment l = 2 * (length l.d.now - l.at) + 1

abbrev pub decreases-item : goal.decreases-item
decreases-item l = 2 * (length l.d.now - l.place)

-- What is left of the comment says what the whole says.
abbrev pub invariant-comment-loop-byte : goal.invariant-comment-loop-byte
invariant-comment-loop-byte l = (comment_of l.level (text l.d l.at) ≡ comment_of l.level (text l.d l.n)) × (l.at ≤ l.n)

abbrev pub decreases-comment-loop-byte : goal.decreases-comment-loop-byte
decreases-comment-loop-byte l = length l.d - l.n
