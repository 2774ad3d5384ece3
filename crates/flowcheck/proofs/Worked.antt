-- The worked books: every verdict computes, and so do the lines but for the digits of their numbers.
use Rattle.std.proofs.Common.{◌≡◌, ℕ, List, [], ◌∷◌, ◌++◌, codes, decimal, refl, ap, ◌∙◌, lit<, lit≤}
use Rattle.flowcheck.specs.Worked.{WorkedBooks}
use Rattle.std.proofs.lemmas.Fmt.{decimal_digit, decimal_step}

one : decimal 1 ≡ 49 ∷ []
one = decimal_digit 1 (lit< tt)

eleven : decimal 11 ≡ 49 ∷ 49 ∷ []
eleven = decimal_step 11 (lit≤ tt) (lit< tt) ∙ ap (λ (ds : List ℕ). ds ++ (49 ∷ [])) one

pub worked_books : WorkedBooks
worked_books =
    record {
      uneven_refused = refl;
      evened_accepted = refl;
      evened_bytes = refl;
      private_clock_accepted = refl;
      direct_refused = refl;
      implicit_refused = refl;
      squared_accepted = refl;
      squared_refused = refl;
      nothing_accepted = refl;
      public_accepted = refl;
      inside_refused = refl;
      inside_accepted = refl;
      length_refused = refl;
      time_accepted = refl;
      refused_line = λ i. codes "refused " ++ (eleven i ++ (codes " check " ++ (one i ++ codes "\n")));
      accepted_line = λ i. codes "accepted " ++ (one i ++ codes "\n");
      smaller_first = refl;
      if_first = refl;
      clock_level_first = refl;
      figure_level_next = refl;
      five_bytes = refl;
      figures_first = refl;
      instructions_next = refl;
      length_last = refl;
      argument_first = refl;
      stack_next = refl;
      nesting_last = refl;
      earlier_counts = refl;
      stop_first = refl;
      heavy_event = refl;
      light_enough = refl;
      too_heavy = refl;
      no_turns_weigh = refl;
    }
