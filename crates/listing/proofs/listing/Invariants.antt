use Rattle.std.proofs.Common.{◌≡◌, ◌+◌, ◌++◌, length, vec_items}
use Rattle.std.specs.List.{flat_map}
use Rattle.stretch.specs.Parts.{parts}
use Rattle.stretch.specs.Reads.{coming}
use Rattle.listing.specs.Listing.{line_of}
use Rattle.listing.proofs.listing.Given as goal

-- what is written, with the lines to come, is all the lines; likewise the count
abbrev pub invariant-loop-part : goal.invariant-loop-part
invariant-loop-part l =
    record {
      lines : vec_items l.out ++ flat_map line_of (coming l.part-iterator) ≡ flat_map line_of (parts l.capture);
      count : l.parts + length (coming l.part-iterator) ≡ length (parts l.capture);
      room : length l.buffer ≡ 64;
    }
