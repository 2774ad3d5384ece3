-- From a scan to trees: instructions that fit, with a stop last, are the instructions of formed events.
use Rattle.std.proofs.Common.{◌≡◌, ℕ, suc, ◌+◌, ◌-◌, ◌<◌, ◌≤◌, true, false, List, [], ◌∷◌, ◌++◌, length, Ok, sym, refl, ap, ◌∙◌, subst, subst₂, add-one, arith}
use mathlib.Core.Bool.{false≢true}
use Rattle.book.proofs.Decodes.{Valid}
use Rattle.book.proofs.Parses.{instr, ahead}
use Rattle.book.proofs.Steps.{Fitting, scan_back}
use Rattle.book.specs.declared.instruction.Instruction.{Instruction}
use Rattle.book.specs.declared.instruction.Instruction.TheVariants.{Stop, Number, Figure, Clock, Operate, Store, If, Repeat, Wait, Else, End}
use Rattle.book.specs.declared.instruction.Operation.{Operation}
use Rattle.book.specs.declared.block.Block.{Block}
use Rattle.book.specs.declared.block.Block.TheVariants.{FirstPart, SecondPart, Turns}
use Rattle.book.specs.Forms.{Formed, ends, number, figure, clock, operate, store, wait, one_part, two_parts, turns}
use Rattle.book.specs.Reads.{fits_height, height_after, in_first, fits_nesting, outer, blocks_after, is_stop, stops_last, Raw, scan}
use Rattle.book.specs.Trees.{Code, done, plain, branch, loop, flat, whole, ending, elsing, stopping, Ahead, last, closed, grow, forked, before, parse, events_ahead, events}
use Rattle.std.proofs.lemmas.List.{append_assoc, nil_from_length}
use Rattle.std.proofs.lemmas.Bool.{eqb-true, ltb-true}
use Rattle.std.specs.List.{AllByRecursion}

-- what is ahead where h amounts are on the stack and these blocks are open: each block is closed in its turn by an end,
-- a first part perhaps by an else, and then come events to the end; every stretch is formed
pub data Shape (nv : ℕ) : ℕ → List Block → Ahead → Type 0 where
  stop_last : {h : ℕ} {c : Code} → Formed nv 8 h c → Shape nv h [] (closed stopping c (last done))
  stop_more : {h : ℕ} {c : Code} {a : Ahead} → Formed nv 8 h c → Shape nv 0 [] a → Shape nv h [] (closed stopping c a)
  ended : {h d : ℕ} {b : Block} {bs : List Block} {c : Code} {a : Ahead} → length (b ∷ bs) + d ≡ 8 → Formed nv d h c → Shape nv 0 bs a → Shape nv h (b ∷ bs) (closed ending c a)
  elsed : {h d : ℕ} {bs : List Block} {c : Code} {a : Ahead} → length (FirstPart ∷ bs) + d ≡ 8 → Formed nv d h c → Shape nv 0 (SecondPart ∷ bs) a → Shape nv h (FirstPart ∷ bs) (closed elsing c a)

-- the instructions that are ahead
abbrev pub text : Ahead → List Instruction
text (last c) = flat c
text (closed k c a) = flat c ++ (instr k ∷ text a)

-- something in front of the stretch ahead keeps the shape, if it forms every stretch for which as many blocks may be open
grow_shape : (nv h h' : ℕ) (bs : List Block) (a : Ahead) (g : Code → Code) → ((d : ℕ) (c : Code) → length bs + d ≡ 8 → Formed nv d h' c → Formed nv d h (g c)) → Shape nv h' bs a → Shape nv h bs (grow g a)
grow_shape nv h h' bs a g forms (stop_last f) = stop_last (forms 8 _ refl f)
grow_shape nv h h' bs a g forms (stop_more f s) = stop_more (forms 8 _ refl f) s
grow_shape nv h h' bs a g forms (ended {d} {c} r f s) = ended r (forms d c r f) s
grow_shape nv h h' bs a g forms (elsed {d} {c} r f s) = elsed r (forms d c r f) s

-- and puts the same instructions in front of all that is ahead
grow_text : (front : List Instruction) (a : Ahead) (g : Code → Code) → ((c : Code) → flat (g c) ≡ front ++ flat c) → text (grow g a) ≡ front ++ text a
grow_text front (last c) g puts = puts c
grow_text front (closed k c a) g puts = ap (λ l. l ++ (instr k ∷ text a)) (puts c) ∙ append_assoc front (flat c) (instr k ∷ text a)

-- a block up to its end, apart from what follows: with one part, and with two
around : (xs : List Instruction) (l : List Instruction) → xs ++ (End ∷ l) ≡ (xs ++ (End ∷ [])) ++ l
around xs l = sym (append_assoc xs (End ∷ []) l)

around_two : (xs ys : List Instruction) (l : List Instruction) → xs ++ (Else ∷ (ys ++ (End ∷ l))) ≡ (xs ++ (Else ∷ (ys ++ (End ∷ [])))) ++ l
around_two xs ys l = ap (λ m. xs ++ (Else ∷ m)) (around ys l) ∙ sym (append_assoc xs (Else ∷ (ys ++ (End ∷ []))) l)

-- what an instruction in front gives: the shape before it, and one instruction more
pub record Grown (nv h : ℕ) (bs : List Block) (i : Instruction) (a : Ahead) : Type 0 where
  pub shape : Shape nv h bs (before i a)
  pub says : text (before i a) ≡ i ∷ text a

-- An if whose first part is closed by an else: its second part can only be closed by an end, and both parts may hold one
-- block less than what follows the if.
fork_grown : (nv d : ℕ) (bs : List Block) (f : Code) (a : Ahead) → length (FirstPart ∷ bs) + d ≡ 8 → Formed nv d 0 f → Shape nv 0 (SecondPart ∷ bs) a → Shape nv 1 bs (forked f a) × (text (forked f a) ≡ If ∷ (flat f ++ (Else ∷ text a)))
fork_grown nv d bs f a r p (ended {d = e} {c = s} {a = b} t q u) =
    let same : e ≡ d = omega arith in (
      grow_shape nv 1 0 bs b (branch true f s) (λ k c l w.
          let more : k ≡ suc d = omega arith in
          subst (λ x. Formed nv x 1 (branch true f s c)) (sym more) (two_parts p (subst (λ x. Formed nv x 0 s) same q) (subst (λ x. Formed nv x 0 c) more w))) u,
      grow_text (If ∷ (flat f ++ (Else ∷ (flat s ++ (End ∷ []))))) b (branch true f s) (λ c. ap (λ l. If ∷ l) (around_two (flat f) (flat s) (flat c)))
          ∙ ap (λ l. If ∷ l) (sym (around_two (flat f) (flat s) (text b))),
    )

-- An if in front of its first part, by what closes that part.
if_grown : (nv : ℕ) (bs : List Block) (a : Ahead) → Shape nv 0 (FirstPart ∷ bs) a → Grown nv 1 bs If a
if_grown nv bs a (ended {d} {c = f} {a = b} r p u) = record {
  shape = grow_shape nv 1 0 bs b (branch false f done) (λ k c l w.
      let more : k ≡ suc d = omega arith in
      subst (λ x. Formed nv x 1 (branch false f done c)) (sym more) (one_part p (subst (λ x. Formed nv x 0 c) more w))) u;
  says =
      grow_text (If ∷ (flat f ++ (End ∷ []))) b (branch false f done) (λ c. ap (λ l. If ∷ l) (around (flat f) (flat c)))
      ∙ ap (λ l. If ∷ l) (sym (around (flat f) (text b)));
}
if_grown nv bs a (elsed {d} {c = f} {a = b} r p u) =
    let w = fork_grown nv d bs f b r p u in
    record { shape = w.0; says = w.1 }

-- a repeat in front of its inside
repeat_grown : (nv n : ℕ) (bs : List Block) (a : Ahead) → n ≤ 1000 → Shape nv 0 (Turns ∷ bs) a → Grown nv 0 bs (Repeat n) a
repeat_grown nv n bs a m (ended {d} {c = f} {a = b} r p u) = record {
  shape = grow_shape nv 0 0 bs b (loop n f) (λ k c l w.
      let more : k ≡ suc d = omega arith in
      subst (λ x. Formed nv x 0 (loop n f c)) (sym more) (turns m p (subst (λ x. Formed nv x 0 c) more w))) u;
  says =
      grow_text (Repeat n ∷ (flat f ++ (End ∷ []))) b (loop n f) (λ c. ap (λ l. Repeat n ∷ l) (around (flat f) (flat c)))
      ∙ ap (λ l. Repeat n ∷ l) (sym (around (flat f) (text b)));
}

-- a plain instruction in front of a stretch
plain_grown : (nv h h' : ℕ) (bs : List Block) (i : Instruction) (a : Ahead) → ((d : ℕ) (c : Code) → Formed nv d h' c → Formed nv d h (plain i c)) → Shape nv h' bs a → Shape nv h bs (grow (plain i) a) × (text (grow (plain i) a) ≡ i ∷ text a)
plain_grown nv h h' bs i a forms s = (grow_shape nv h h' bs a (plain i) (λ d c _ f. forms d c f) s, grow_text (i ∷ []) a (plain i) (λ c. refl))

-- an operation takes two amounts and leaves one
operate_forms : (nv h d : ℕ) (o : Operation) (c : Code) → 1 < h → Formed nv d (h - 1) c → Formed nv d h (plain (Operate o) c)
operate_forms nv h d o c l f =
    let k : ℕ = h - 2 in
    let two-more : suc (suc k) ≡ h = omega arith in
    let one_more : h - 1 ≡ suc k = omega arith in
    subst (λ x. Formed nv d x (plain (Operate o) c)) two-more (operate (subst (λ x. Formed nv d x c) one_more f))

-- an end closes a block that is open, an else a first part; each stands behind an empty stretch
end_grown : (nv : ℕ) (bs : List Block) (a : Ahead) → length bs ≤ 8 → fits_nesting End bs ≡ true → Shape nv 0 (outer bs) a → Grown nv 0 bs End a
end_grown nv [] a r u s = absurd (false≢true u)
end_grown nv (b ∷ bs) a r u s = record { shape = ended {d = 8 - suc (length bs)} (omega arith) ends s; says = refl }

else_grown : (nv : ℕ) (bs : List Block) (a : Ahead) → length bs ≤ 8 → in_first bs ≡ true → Shape nv 0 (SecondPart ∷ outer bs) a → Grown nv 0 bs Else a
else_grown nv (FirstPart ∷ bs) a r u s = record { shape = elsed {d = 8 - suc (length bs)} (omega arith) ends s; says = refl }
else_grown nv _ a r u s = absurd (false≢true u)

-- nothing is open at a stop
nothing_open : (bs : List Block) → fits_nesting Stop bs ≡ true → [] ≡ bs
nothing_open bs u = sym (nil_from_length bs (eqb-true (length bs) 0 u))

-- a stop ends an event
stop_grown : (nv : ℕ) (a : Ahead) → Shape nv 0 [] a → Grown nv 0 [] Stop a
stop_grown nv a s = record { shape = stop_more ends s; says = refl }

-- One more instruction in front, by cases on it: what it asks of the height and the blocks is what its rule asks.
grown : (nv h : ℕ) (bs : List Block) (i : Instruction) (a : Ahead) → length bs ≤ 8 → Valid nv i → fits_height i h ≡ true → fits_nesting i bs ≡ true → Shape nv (height_after i h) (blocks_after i bs) a → Grown nv h bs i a
grown nv h bs (Number z) a r v t u s =
    let w = plain_grown nv h (h + 1) bs (Number z) a (λ d c f. number (ltb-true h 8 t) (subst (λ x. Formed nv d x c) (add-one h) f)) s in
    record { shape = w.0; says = w.1 }
grown nv h bs (Figure f) a r v t u s =
    let w = plain_grown nv h (h + 1) bs (Figure f) a (λ d c f. figure v (ltb-true h 8 t) (subst (λ x. Formed nv d x c) (add-one h) f)) s in
    record { shape = w.0; says = w.1 }
grown nv h bs Clock a r v t u s =
    let w = plain_grown nv h (h + 1) bs Clock a (λ d c f. clock (ltb-true h 8 t) (subst (λ x. Formed nv d x c) (add-one h) f)) s in
    record { shape = w.0; says = w.1 }
grown nv h bs (Operate o) a r v t u s =
    let w = plain_grown nv h (h - 1) bs (Operate o) a (λ d c f. operate_forms nv h d o c (ltb-true 1 h t) f) s in
    record { shape = w.0; says = w.1 }
grown nv h bs (Store n) a r v t u s =
    let w = plain_grown nv 1 0 bs (Store n) a (λ d c f. store v f) s in
    subst (λ x. Grown nv x bs (Store n) a) (sym (eqb-true h 1 t)) (record { shape = w.0; says = w.1 })
grown nv h bs If a r v t u s = subst (λ x. Grown nv x bs If a) (sym (eqb-true h 1 t)) (if_grown nv bs a s)
grown nv h bs (Repeat n) a r v t u s = subst (λ x. Grown nv x bs (Repeat n) a) (sym (eqb-true h 0 t)) (repeat_grown nv n bs a v s)
grown nv h bs (Wait n) a r v t u s =
    let w = plain_grown nv 0 0 bs (Wait n) a (λ d c f. wait v f) s in
    subst (λ x. Grown nv x bs (Wait n) a) (sym (eqb-true h 0 t)) (record { shape = w.0; says = w.1 })
grown nv h bs Else a r v t u s = subst (λ x. Grown nv x bs Else a) (sym (eqb-true h 0 t)) (else_grown nv bs a r u s)
grown nv h bs End a r v t u s = subst (λ x. Grown nv x bs End a) (sym (eqb-true h 0 t)) (end_grown nv bs a r u s)
grown nv h bs Stop a r v t u s =
    let none = nothing_open bs u in
    subst₂ (λ x y. Grown nv x y Stop a) (sym (eqb-true h 0 t)) none (stop_grown nv a (subst (λ y. Shape nv 0 y a) (sym none) s))

-- at most eight blocks are open, and so after an instruction that fits
outer_room : (bs : List Block) → length bs ≤ 8 → length (outer bs) ≤ 8
outer_room [] r = r
outer_room (b ∷ bs) r = omega arith

else_room : (bs : List Block) → length bs ≤ 8 → in_first bs ≡ true → length (SecondPart ∷ outer bs) ≤ 8
else_room [] r u = absurd (false≢true u)
else_room (b ∷ bs) r u = r

room_after : (i : Instruction) (bs : List Block) → length bs ≤ 8 → fits_nesting i bs ≡ true → length (blocks_after i bs) ≤ 8
room_after If bs r u = ltb-true (length bs) 8 u
room_after (Repeat n) bs r u = ltb-true (length bs) 8 u
room_after Else bs r u = else_room bs r u
room_after End bs r u = outer_room bs r
room_after _ bs r u = r

-- the last instruction is a stop, with nothing on the stack and nothing open
last_grown : (nv h : ℕ) (bs : List Block) (i : Instruction) → fits_height i h ≡ true → fits_nesting i bs ≡ true → is_stop i ≡ true → Grown nv h bs i (last done)
last_grown nv h bs Stop t u s =
    subst₂ (λ x y. Grown nv x y Stop (last done)) (sym (eqb-true h 0 t)) (nothing_open bs u) (record { shape = stop_last ends; says = refl })
last_grown nv h bs _ t u s = absurd (false≢true s)

-- By induction on the instructions, each put in front of the shape of what follows it.
pub shaped : (nv h : ℕ) (bs : List Block) (i : Instruction) (is : List Instruction) → length bs ≤ 8 → Fitting nv h bs (i ∷ is) → stops_last (i ∷ is) ≡ true → Shape nv h bs (parse (i ∷ is)) × (text (parse (i ∷ is)) ≡ i ∷ is)
shaped nv h bs i [] r f s =
    let g = last_grown nv h bs i f.1 f.2 s in
    (g.shape, g.says)
shaped nv h bs i (j ∷ js) r f s =
    let more = shaped nv (height_after i h) (blocks_after i bs) j js (room_after i bs r f.2) f.3 s in
    let g = grown nv h bs i (parse (j ∷ js)) r f.0 f.1 f.2 more.0 in
    (g.shape, g.says ∙ ap (λ l. i ∷ l) more.1)

-- instructions that are the instructions of formed events, and parse to them
pub record Programmed (nv : ℕ) (is : List Instruction) : Type 0 where
  pub code_is : whole (events is) ≡ is
  pub formed : AllByRecursion (λ e. Formed nv 8 0 e) (events is)
  pub parsed : parse is ≡ ahead (events is)

-- where nothing is open there are events ahead, and nothing else
pub shape_events : (nv : ℕ) (a : Ahead) → Shape nv 0 [] a → (whole (events_ahead a) ≡ text a) × AllByRecursion (λ e. Formed nv 8 0 e) (events_ahead a) × (a ≡ ahead (events_ahead a))
shape_events nv a (stop_last f) = (refl, (f, tt), refl)
shape_events nv a (stop_more {c} {a = b} f s) =
    let w = shape_events nv b s in
    (ap (λ l. flat c ++ (Stop ∷ l)) w.0, (f, w.1), ap (closed stopping c) w.2)

-- instructions that fit, with a stop last, are events
pub fitting_events : (nv : ℕ) (is : List Instruction) → Fitting nv 0 [] is → stops_last is ≡ true → Programmed nv is
fitting_events nv [] f s = record { code_is = refl; formed = tt; parsed = refl }
fitting_events nv (i ∷ is) f s =
    let w = shaped nv 0 [] i is (omega arith) f s in
    let v = shape_events nv (parse (i ∷ is)) w.0 in
    record { code_is = v.0 ∙ w.1; formed = v.1; parsed = v.2 }

-- the instructions that a scan answers, with a stop last
pub scanned_events : (nv : ℕ) (rs : List Raw) (is : List Instruction) → scan nv 0 0 [] rs ≡ Ok is → stops_last is ≡ true → Programmed nv is
scanned_events nv rs is e s = fitting_events nv is (scan_back nv 0 0 [] rs is e).1 s
