-- The tolls of the two parts of an if of sound code are what tolling finds behind the if and behind its else.
use Rattle.std.proofs.Common.{◌≡◌, ℕ, ◌+◌, ◌≤◌, true, List, [], ◌∷◌, ◌++◌, length, get_or, drop, Some, None, sym, ap, ◌∙◌, arith}
use lib.Seq.{drop-append-add}
use Rattle.book.proofs.Ifs.{IfAt, alone, paired, if_at}
use Rattle.book.proofs.Looking.{seek_else, seek_end}
use Rattle.book.proofs.Parses.{instr, parse_flat}
use Rattle.book.specs.declared.instruction.Instruction.{Instruction}
use Rattle.book.specs.declared.instruction.Instruction.TheVariants.{Stop, If, Else, End}
use Rattle.book.specs.Forms.{Formed}
use Rattle.book.specs.Looks.{seek}
use Rattle.book.specs.Reads.{sound}
use Rattle.book.specs.Trees.{Closer, Code, flat, weight, ending, elsing, parse, here}
use Rattle.flowcheck.proofs.Tolling.{tolled_closed, toll_fits}
use Rattle.flowcheck.specs.Tolls.{toll, tolled, second_ahead}
use Rattle.meter.specs.Meters.{MeterModel, Lawful}
use Rattle.std.proofs.lemmas.List.{drop-drop, length-append, length-drop}

-- what stands behind the first part and its else, by its place in the code
behind : (code : List Instruction) (n : ℕ) (front back : List Instruction) → drop n code ≡ front ++ (Else ∷ back) → drop (n + length front + 1) code ≡ back
behind code n front back e =
    let there : n + length front + 1 ≡ n + (length front + 1) = omega arith in
    ap (λ k. drop k code) there ∙ sym (drop-drop (length front + 1) n code) ∙ ap (drop (length front + 1)) e ∙ drop-append-add front (Else ∷ back) 1

-- and that place is within the code
behind_within : (code : List Instruction) (n : ℕ) (front back : List Instruction) → drop n code ≡ front ++ (Else ∷ back) → n + length front + 1 ≤ length code
behind_within code n front back e = omega (arith, length-drop n code, ap length e, length-append front (Else ∷ back))

-- a light stretch up to what closes it: its toll
part_toll : {nv d : ℕ} {f : Code} (m : MeterModel) → Lawful m → d ≤ 8 → Formed nv d 0 f → weight 1 f ≤ 100000 → (k : Closer) (after : List Instruction) → tolled m 0 [] (flat f ++ (instr k ∷ after)) ≡ toll m (here (parse (flat f ++ (instr k ∷ after))))
part_toll m law l p w k after = tolled_closed m p l k after ∙ toll_fits m law p w ∙ ap (λ a. toll m (here a)) (sym (parse_flat p k after))

-- what stands behind an if, by its parts
module _ (m : MeterModel) (law : Lawful m) (nv : ℕ) where
  first_part : (is : List Instruction) → IfAt nv is → tolled m 0 [] is ≡ toll m (here (parse is))
  first_part is (alone after l says p w) = ap (tolled m 0 []) says ∙ part_toll m law l p w ending after ∙ ap (λ js. toll m (here (parse js))) (sym says)
  first_part is (paired {s} after l says p q w x) = ap (tolled m 0 []) says ∙ part_toll m law l p w elsing (flat s ++ (End ∷ after)) ∙ ap (λ js. toll m (here (parse js))) (sym says)

  second_part_lem : (code : List Instruction) (n e : ℕ) → IfAt nv (drop n code) → seek 0 n (drop n code) ≡ Some e → (e + 1 ≤ length code) × (tolled m 0 [] (drop (e + 1) code) ≡ toll m (second_ahead (parse (drop n code))))
  second_part_lem code n e (alone after l says p w) t = let none : seek 0 n (drop n code) ≡ None = ap (seek 0 n) says ∙ seek_end p n after in absurd (cc)
  second_part_lem code n e (paired {f} {s} after l says p q w x) t =
      let second = flat s ++ (End ∷ after) in
      let found : seek 0 n (drop n code) ≡ Some (n + length (flat f)) = ap (seek 0 n) says ∙ seek_else p n second in
      let at : e ≡ n + length (flat f) = cc in (
        omega (arith, behind_within code n (flat f) second says),
        ap (λ k. tolled m 0 [] (drop (k + 1) code)) at
            ∙ ap (tolled m 0 []) (behind code n (flat f) second says)
            ∙ part_toll m law l q x ending after
            ∙ ap (λ a. toll m (second_ahead a)) (sym (parse_flat p elsing second))
            ∙ ap (λ js. toll m (second_ahead (parse js))) (sym says),
      )

  no_second : (n : ℕ) (is : List Instruction) → IfAt nv is → seek 0 n is ≡ None → toll m (second_ahead (parse is)) ≡ 0
  no_second n is (alone after l says p w) t = ap (λ js. toll m (second_ahead (parse js))) says ∙ ap (λ a. toll m (second_ahead a)) (parse_flat p ending after)
  no_second n is (paired {f} {s} after l says p q w x) t = let found : seek 0 n is ≡ Some (n + length (flat f)) = ap (seek 0 n) says ∙ seek_else p n (flat s ++ (End ∷ after)) in absurd (cc)

  -- an if of sound code
  module _ (code : List Instruction) (p : ℕ) (fine : sound nv code ≡ true) (is-if : get_or code p Stop ≡ If) where
    -- Tolling right behind the if finds the toll of its first part.
    pub first_toll : tolled m 0 [] (drop (p + 1) code) ≡ toll m (here (parse (drop (p + 1) code)))
    first_toll = first_part (drop (p + 1) code) (if_at nv code p fine is-if)

    -- Tolling right behind its else finds the toll of its second part.
    pub second_toll_some : (e : ℕ) → seek 0 (p + 1) (drop (p + 1) code) ≡ Some e → (e + 1 ≤ length code) × (tolled m 0 [] (drop (e + 1) code) ≡ toll m (second_ahead (parse (drop (p + 1) code))))
    second_toll_some e t = second_part_lem code (p + 1) e (if_at nv code p fine is-if) t

    -- Without an else there is no toll.
    pub second_toll_none : seek 0 (p + 1) (drop (p + 1) code) ≡ None → toll m (second_ahead (parse (drop (p + 1) code))) ≡ 0
    second_toll_none t = no_second (p + 1) (drop (p + 1) code) (if_at nv code p fine is-if) t
