-- The tolls of an if's parts in sound code, found by looking ahead for its else.
use Rattle.std.proofs.Common.{◌≡◌, ℕ, true, List, slice_get, Some, sym, ◌∙◌}
use Rattle.book.proofs.Looking.{at_if}
use Rattle.book.specs.declared.instruction.Instruction.{Instruction}
use Rattle.book.specs.declared.instruction.Instruction.TheVariants.{If, Stop}
use Rattle.book.specs.Reads.{sound}
use Rattle.flowcheck.proofs.PartTolls.{first_toll, second_toll_none, second_toll_some}
use Rattle.flowcheck.specs.Parts.{PartTolls}
use Rattle.meter.specs.Meters.{Lawful, MeterModel}
use Rattle.std.proofs.lemmas.Option.{get_or_from_slice_get, slice_get_within}

pub part_tolls : (m : MeterModel) → Lawful m → (nv : ℕ) (code : List Instruction) (p : ℕ) → sound nv code ≡ true → slice_get code p ≡ Some If → PartTolls m code p
part_tolls m law nv code p fine there =
    let within = slice_get_within code p If there in
    let is-if = get_or_from_slice_get code p If Stop there in
    record {
      first = first_toll m law nv code p fine is-if;
      second = λ e found. second_toll_some m law nv code p fine is-if e (sym (at_if code p within is-if) ∙ found);
      missing = λ none. second_toll_none m law nv code p fine is-if (sym (at_if code p within is-if) ∙ none);
    }
