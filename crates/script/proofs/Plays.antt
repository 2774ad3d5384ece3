-- A script that is answered line by line.
use Rattle.script.specs.Consoles.{ConsoleModel}
use Rattle.script.specs.Scripts.{after, answers, lines_of, printed, reply}
use Rattle.std.proofs.Common.{◌≡◌, ℕ, true, false, cond, ◌⊎◌, eqb, List, [], ◌∷◌, ◌++◌, refl, ap, ◌∙◌, inl, inr}
use Rattle.std.specs.List.{onto_first, slice_split}

-- the parts between line feeds
abbrev pub parts_of : List ℕ → List (List ℕ)
parts_of bs = slice_split (λ b. eqb b 10) bs

-- the parts are the lines, or these and an empty one
abbrev LinesOrOneMore : List (List ℕ) → List (List ℕ) → Type 0
LinesOrOneMore parts lines = (parts ≡ lines) ⊎ (parts ≡ lines ++ ([] ∷ []))

first_more : (b : ℕ) (parts lines : List (List ℕ)) → LinesOrOneMore parts lines → LinesOrOneMore (onto_first b parts) (onto_first b lines)
first_more b parts lines (inl same) = inl (ap (onto_first b) same)
first_more b parts [] (inr more) = inl (ap (onto_first b) more)
first_more b parts (line ∷ lines) (inr more) = inr (ap (onto_first b) more)

empty_more : (parts lines : List (List ℕ)) → LinesOrOneMore parts lines → LinesOrOneMore ([] ∷ parts) ([] ∷ lines)
empty_more parts lines (inl same) = inl (ap (λ (l : List (List ℕ)). [] ∷ l) same)
empty_more parts lines (inr more) = inr (ap (λ (l : List (List ℕ)). [] ∷ l) more)

parts_are : (bs : List ℕ) → LinesOrOneMore (parts_of bs) (lines_of bs)
parts_are [] = inr refl
parts_are (b ∷ bs) = elim (eqb b 10) as (λ feed. LinesOrOneMore (cond feed ([] ∷ parts_of bs) (onto_first b (parts_of bs))) (cond feed ([] ∷ lines_of bs) (onto_first b (lines_of bs)))) [
  | true ↦ empty_more (parts_of bs) (lines_of bs) (parts_are bs)
  | false ↦ first_more b (parts_of bs) (lines_of bs) (parts_are bs)
]

-- an empty line behind the others is passed over
passed_over : (c : ConsoleModel) (lines : List (List ℕ)) → answers c (lines ++ ([] ∷ [])) ≡ answers c lines
passed_over c [] = refl
passed_over c (line ∷ lines) = ap (λ (t : List ℕ). printed (reply c line) ++ t) (passed_over (after c line) lines)

pub parts_answered : (c : ConsoleModel) (bs : List ℕ) → answers c (parts_of bs) ≡ answers c (lines_of bs)
parts_answered c bs = elim (parts_are bs) [
  | inl same ↦ ap (answers c) same
  | inr more ↦ ap (answers c) more ∙ passed_over c (lines_of bs)
]
