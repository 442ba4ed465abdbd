-- Each line of a made program is plain, and is cut into its tokens.
use Rattle.std.proofs.Common.{◌≡◌, ℕ, zero, suc, ◌+◌, ◌≤◌, true, ◌&&◌, List, [], ◌∷◌, ◌++◌, decimal, refl, ap, ◌∙◌, length-append, arith}
use Rattle.std.specs.List.{AllByRecursion, list_all}
use Rattle.std.proofs.lemmas.List.Folds.{list_all-append}
use Rattle.fortran_tokens.specs.Scans.{sign_found}
use Rattle.plain_lines.specs.PlainLines.{is_plain}
use Rattle.plain_words.specs.Written.{Written, line_of, IsWrittenLine}
use Rattle.plain_words.proofs.Found.{FoundBy, found_from}
use Rattle.plain_words.proofs.Decimals.{few_digits, decimal_plain, decimal_found, decimal_allowed, bracket_decimal}
use Rattle.plain_words.proofs.Shifted.{numeral}
use Rattle.made_words.proofs.Lines.{program_words, declaration_rest, declaration_words, image_words, left_words, wrap_words, turn_words, edge_rest, edge_words, sync_words, get_words, down_rest, down_words, move_words, over_words, first_words, zero_words, up_rest, up_words, add_words, call_words, print_words, end_words, setting_middle, setting_words, settings_words, closing_words, made_words}

plain_around : (n : ℕ) (rest : List ℕ) → n ≤ 2147483647 → list_all is_plain rest ≡ true → list_all is_plain (decimal n ++ rest) ≡ true
plain_around n rest h e = list_all-append is_plain (decimal n) rest ∙ ap (λ b. b && list_all is_plain rest) (decimal_plain n h) ∙ e

program_found : FoundBy 0 program_words
unfolding sign_found
program_found = (refl, refl, refl, (refl, refl, refl, tt))

pub program_written : IsWrittenLine program_words
program_written = record { plain = record { inked = refl; plain = refl; short = omega arith }; found = found_from 0 program_words program_found }

declaration_found : (size : ℕ) → size ≤ 2147483647 → FoundBy 0 (declaration_words size)
unfolding sign_found
declaration_found size h = (refl, refl, refl, (refl, refl, refl, (refl, refl, refl, (bracket_decimal size (line_of declaration_rest) h, refl, refl, (decimal_found size (line_of declaration_rest) h refl, decimal_allowed size h, refl, (refl, refl, refl, (refl, refl, refl, (refl, refl, refl, (refl, refl, refl, (refl, refl, refl, (refl, refl, refl, (refl, refl, refl, (refl, refl, refl, (refl, refl, refl, (refl, refl, refl, (refl, refl, refl, (refl, refl, refl, (refl, refl, refl, (refl, refl, refl, (refl, refl, refl, (refl, refl, refl, (refl, refl, refl, (refl, refl, refl, tt)))))))))))))))))))))))

pub declaration_written : (size : ℕ) → size ≤ 2147483647 → IsWrittenLine (declaration_words size)
declaration_written size h = record {
  plain = record {
    inked = refl;
    plain = plain_around size (line_of declaration_rest) h refl;
    short = omega (arith, length-append (decimal size) (line_of declaration_rest), few_digits size h);
  };
  found = found_from 0 (declaration_words size) (declaration_found size h);
}

image_found : FoundBy 0 image_words
unfolding sign_found
image_found = (refl, refl, refl, (refl, refl, refl, (refl, refl, refl, (refl, refl, refl, (refl, refl, refl, tt)))))

pub image_written : IsWrittenLine image_words
image_written = record { plain = record { inked = refl; plain = refl; short = omega arith }; found = found_from 0 image_words image_found }

left_found : FoundBy 0 left_words
unfolding sign_found
left_found = (refl, refl, refl, (refl, refl, refl, (refl, refl, refl, (refl, refl, refl, (refl, refl, refl, tt)))))

pub left_written : IsWrittenLine left_words
left_written = record { plain = record { inked = refl; plain = refl; short = omega arith }; found = found_from 0 left_words left_found }

wrap_found : FoundBy 0 wrap_words
unfolding sign_found
wrap_found = (refl, refl, refl, (refl, refl, refl, (refl, refl, refl, (refl, refl, refl, (refl, refl, refl, (refl, refl, refl, (refl, refl, refl, (refl, refl, refl, (refl, refl, refl, (refl, refl, refl, (refl, refl, refl, tt)))))))))))

pub wrap_written : IsWrittenLine wrap_words
wrap_written = record { plain = record { inked = refl; plain = refl; short = omega arith }; found = found_from 0 wrap_words wrap_found }

turn_found : FoundBy 0 turn_words
unfolding sign_found
turn_found = (refl, refl, refl, (refl, refl, refl, (refl, refl, refl, (refl, refl, refl, (refl, refl, refl, (refl, refl, refl, tt))))))

pub turn_written : IsWrittenLine turn_words
turn_written = record { plain = record { inked = refl; plain = refl; short = omega arith }; found = found_from 0 turn_words turn_found }

edge_found : (size : ℕ) → size ≤ 2147483647 → FoundBy 0 (edge_words size)
unfolding sign_found
edge_found size h = (refl, refl, refl, (refl, refl, refl, (refl, refl, refl, (bracket_decimal size (line_of edge_rest) h, refl, refl, (decimal_found size (line_of edge_rest) h refl, decimal_allowed size h, refl, (refl, refl, refl, tt))))))

pub edge_written : (size : ℕ) → size ≤ 2147483647 → IsWrittenLine (edge_words size)
edge_written size h = record {
  plain = record {
    inked = refl;
    plain = plain_around size (line_of edge_rest) h refl;
    short = omega (arith, length-append (decimal size) (line_of edge_rest), few_digits size h);
  };
  found = found_from 0 (edge_words size) (edge_found size h);
}

sync_found : FoundBy 0 sync_words
unfolding sign_found
sync_found = (refl, refl, refl, (refl, refl, refl, tt))

pub sync_written : IsWrittenLine sync_words
sync_written = record { plain = record { inked = refl; plain = refl; short = omega arith }; found = found_from 0 sync_words sync_found }

get_found : FoundBy 0 get_words
unfolding sign_found
get_found = (refl, refl, refl, (refl, refl, refl, (refl, refl, refl, (refl, refl, refl, (refl, refl, refl, (refl, refl, refl, tt))))))

pub get_written : IsWrittenLine get_words
get_written = record { plain = record { inked = refl; plain = refl; short = omega arith }; found = found_from 0 get_words get_found }

down_found : (size : ℕ) → size ≤ 2147483647 → FoundBy 0 (down_words size)
unfolding sign_found
down_found size h = (refl, refl, refl, (refl, refl, refl, (refl, refl, refl, (decimal_found size (line_of down_rest) h refl, decimal_allowed size h, refl, (refl, refl, refl, (refl, refl, refl, (refl, refl, refl, (refl, refl, refl, (refl, refl, refl, tt)))))))))

pub down_written : (size : ℕ) → size ≤ 2147483647 → IsWrittenLine (down_words size)
down_written size h = record {
  plain = record {
    inked = refl;
    plain = plain_around size (line_of down_rest) h refl;
    short = omega (arith, length-append (decimal size) (line_of down_rest), few_digits size h);
  };
  found = found_from 0 (down_words size) (down_found size h);
}

move_found : FoundBy 0 move_words
unfolding sign_found
move_found = (refl, refl, refl, (refl, refl, refl, (refl, refl, refl, (refl, refl, refl, (refl, refl, refl, (refl, refl, refl, (refl, refl, refl, (refl, refl, refl, (refl, refl, refl, (refl, refl, refl, (refl, refl, refl, tt)))))))))))

pub move_written : IsWrittenLine move_words
move_written = record { plain = record { inked = refl; plain = refl; short = omega arith }; found = found_from 0 move_words move_found }

over_found : FoundBy 0 over_words
unfolding sign_found
over_found = (refl, refl, refl, (refl, refl, refl, tt))

pub over_written : IsWrittenLine over_words
over_written = record { plain = record { inked = refl; plain = refl; short = omega arith }; found = found_from 0 over_words over_found }

first_found : FoundBy 0 first_words
unfolding sign_found
first_found = (refl, refl, refl, (refl, refl, refl, (refl, refl, refl, (refl, refl, refl, (refl, refl, refl, (refl, refl, refl, tt))))))

pub first_written : IsWrittenLine first_words
first_written = record { plain = record { inked = refl; plain = refl; short = omega arith }; found = found_from 0 first_words first_found }

zero_found : FoundBy 0 zero_words
unfolding sign_found
zero_found = (refl, refl, refl, (refl, refl, refl, (refl, refl, refl, tt)))

pub zero_written : IsWrittenLine zero_words
zero_written = record { plain = record { inked = refl; plain = refl; short = omega arith }; found = found_from 0 zero_words zero_found }

up_found : (size : ℕ) → size ≤ 2147483647 → FoundBy 0 (up_words size)
unfolding sign_found
up_found size h = (refl, refl, refl, (refl, refl, refl, (refl, refl, refl, (refl, refl, refl, (refl, refl, refl, (decimal_found size (line_of up_rest) h refl, decimal_allowed size h, refl, tt))))))

pub up_written : (size : ℕ) → size ≤ 2147483647 → IsWrittenLine (up_words size)
up_written size h = record {
  plain = record {
    inked = refl;
    plain = plain_around size (line_of up_rest) h refl;
    short = omega (arith, length-append (decimal size) (line_of up_rest), few_digits size h);
  };
  found = found_from 0 (up_words size) (up_found size h);
}

add_found : FoundBy 0 add_words
unfolding sign_found
add_found = (refl, refl, refl, (refl, refl, refl, (refl, refl, refl, (refl, refl, refl, (refl, refl, refl, (refl, refl, refl, (refl, refl, refl, (refl, refl, refl, tt))))))))

pub add_written : IsWrittenLine add_words
add_written = record { plain = record { inked = refl; plain = refl; short = omega arith }; found = found_from 0 add_words add_found }

call_found : FoundBy 0 call_words
unfolding sign_found
call_found = (refl, refl, refl, (refl, refl, refl, (refl, refl, refl, (refl, refl, refl, (refl, refl, refl, tt)))))

pub call_written : IsWrittenLine call_words
call_written = record { plain = record { inked = refl; plain = refl; short = omega arith }; found = found_from 0 call_words call_found }

print_found : FoundBy 0 print_words
unfolding sign_found
print_found = (refl, refl, refl, (refl, refl, refl, (refl, refl, refl, (refl, refl, refl, (refl, refl, refl, (refl, refl, refl, (refl, refl, refl, (refl, refl, refl, (refl, refl, refl, (refl, refl, refl, tt))))))))))

pub print_written : IsWrittenLine print_words
print_written = record { plain = record { inked = refl; plain = refl; short = omega arith }; found = found_from 0 print_words print_found }

end_found : FoundBy 0 end_words
unfolding sign_found
end_found = (refl, refl, refl, (refl, refl, refl, (refl, refl, refl, tt)))

pub end_written : IsWrittenLine end_words
end_written = record { plain = record { inked = refl; plain = refl; short = omega arith }; found = found_from 0 end_words end_found }

setting_found : (j v : ℕ) → j ≤ 2147483647 → v ≤ 2147483647 → FoundBy 0 (setting_words j v)
unfolding sign_found
setting_found j v h k =
    let rest = line_of (setting_middle ++ numeral true v ∷ []) in (
      refl,
      refl,
      refl,
      (
        bracket_decimal j rest h,
        refl,
        refl,
        (
          decimal_found j rest h refl,
          decimal_allowed j h,
          refl,
          (refl, refl, refl, (refl, refl, refl, (decimal_found v [] k refl, decimal_allowed v k, refl, tt))),
        ),
      ),
    )

setting_written : (j v : ℕ) → j ≤ 2147483647 → v ≤ 2147483647 → IsWrittenLine (setting_words j v)
setting_written j v h k =
    let rest = line_of (setting_middle ++ numeral true v ∷ []) in
    record {
      plain = record {
        inked = refl;
        plain = plain_around j rest h (plain_around v [] k refl);
        short = omega (arith, length-append (decimal j) rest, length-append (decimal v) [], few_digits j h, few_digits v k);
      };
      found = found_from 0 (setting_words j v) (setting_found j v h k);
    }

settings_written : (value : ℕ → ℕ) (j n : ℕ) (rest : List (List Written)) → ((i : ℕ) → value i ≤ 2147483647) → j + n ≤ 4097 → AllByRecursion IsWrittenLine rest
    → AllByRecursion IsWrittenLine (settings_words value j n ++ rest)
settings_written value j zero rest h k r = r
settings_written value j (suc n) rest h k r = (setting_written j (value j) (omega arith) (h j), settings_written value (j + 1) n rest h (omega arith) r)

closing_written : (size : ℕ) → size ≤ 2147483647 → AllByRecursion IsWrittenLine (closing_words size ++ end_words ∷ [])
closing_written size h = (
  turn_written,
  (
    edge_written size h,
    (
      sync_written,
      (
        get_written,
        (
          sync_written,
          (
            down_written size h,
            (
              move_written,
              (
                over_written,
                (
                  first_written,
                  (
                    over_written,
                    (
                      zero_written,
                      (up_written size h, (add_written, (over_written, (call_written, (print_written, (end_written, tt)))))),
                    ),
                  ),
                ),
              ),
            ),
          ),
        ),
      ),
    ),
  ),
)

pub made_written : (value : ℕ → ℕ) (size : ℕ) → ((i : ℕ) → value i ≤ 2147483647) → size ≤ 4096 → AllByRecursion IsWrittenLine (made_words value size)
made_written value size h k =
    let low : size ≤ 2147483647 = omega arith in (
      program_written,
      (
        declaration_written size low,
        (
          image_written,
          (
            left_written,
            (
              wrap_written,
              settings_written value 1 size (closing_words size ++ end_words ∷ []) h (omega arith) (closing_written size low),
            ),
          ),
        ),
      ),
    )
