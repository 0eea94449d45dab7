mod Ranking
